use mathlib.Core.Path.{◌≡◌}
use mathlib.Core.Bool.{true}
use Rattle.tasks.specs.Below.{all}
use Rattle.planner.specs.Whole.{keeps_bound}
use Rattle.planner.proofs.all_keep.Given as goal

abbrev pub invariant-loop-b : goal.invariant-loop-b
invariant-loop-b l = all l.b-index (keeps_bound l.fn.plan l.core.0) ≡ true
