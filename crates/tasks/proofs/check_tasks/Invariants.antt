use Rattle.tasks.specs.Tables.{cores_fit, tasks_fit, no_task, values_fit}
use Prim.Native.Nat.{ℕ, ◌<◌}
use mathlib.Core.Path.{◌≡◌}
use mathlib.Core.Bool.{true}
use lib.ListN.{get_or}
use Rattle.tasks.proofs.check_tasks.Given as goal

abbrev pub invariant-loop-i : goal.invariant-loop-i
invariant-loop-i l = (cores_fit l.cores ≡ true) × (tasks_fit l.count ≡ true) × ((k : ℕ) → k < l.i → values_fit (get_or l.fn.tasks k no_task) ≡ true)
