use mathlib.Core.Bool.{false}
use mathlib.Core.Path.{◌≡◌}
use Prim.Native.Nat.{min}
use lib.ListN.{get_or}
use Rattle.tasks.specs.Below.{tabulate}
use Rattle.dispatch.specs.Refusing.{lowest_no}
use Rattle.dispatch.proofs.Judging.{not_run_on, lowest_of}
use Rattle.dispatch.proofs.lowest_not_run.Given as goal

abbrev pub invariant-loop-x : goal.invariant-loop-x
invariant-loop-x l = (l.x-end ≡ min l.fn.cores 16) × (l.wrong ≡ tabulate 256 (not_run_on l.fn.count l.fn.last l.x))

abbrev pub invariant-loop-task : goal.invariant-loop-task
invariant-loop-task l = lowest_no l.low ≡ lowest_of l.fn.finished (λ t. get_or l.wrong t false) l.task-index
