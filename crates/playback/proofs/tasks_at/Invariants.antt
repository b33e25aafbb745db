use mathlib.Core.Path.{◌≡◌}
use Prim.Native.Nat.{◌+◌}
use lib.ListN.{get_or}
use Rattle.tasks.specs.Below.{padded}
use Rattle.tasks.specs.Tables.{task_no}
use Rattle.playback.proofs.tasks_at.Given as goal

abbrev pub invariant-loop-k : goal.invariant-loop-k
invariant-loop-k l = l.members ≡ padded 64 l.k (task_no 0) (λ j. task_no (get_or l.bytes (l.at + 1 + j) 0))
