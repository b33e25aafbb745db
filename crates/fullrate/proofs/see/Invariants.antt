use Rattle.fullrate.specs.Watched as watched
use Rattle.tasks.specs.Below.{padded}
use lib.ListN.{get_or}
use Prim.Native.Nat.{min, max}
use mathlib.Core.Path.{◌≡◌}
use Rattle.fullrate.proofs.see.Given as goal

abbrev pub invariant-loop-i : goal.invariant-loop-i
invariant-loop-i l = (l.i-end ≡ min l.fn.plan.count 64) × (l.longest ≡ padded 64 l.i 0 (λ k. max (get_or l.fn.seen.longest k 0) (watched.seen l.fn.plan.cores l.fn.ran.runs l.fn.state k)))
