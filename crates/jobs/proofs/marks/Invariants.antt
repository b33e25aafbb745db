use mathlib.Core.Path.{◌≡◌}
use lib.Dec.{eqb}
use lib.ListN.{get_or}
use Rattle.tasks.specs.Below.{any, tabulate}
use Rattle.tasks.specs.Tables.{task_no}
use Rattle.jobs.proofs.marks.Given as goal

abbrev pub invariant-loop-task : goal.invariant-loop-task
invariant-loop-task l = l.marks ≡ tabulate 256 (λ i. any l.task-index (λ j. eqb (get_or l.fn.tasks.members j (task_no 0)).0 i))
