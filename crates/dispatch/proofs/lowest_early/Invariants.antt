use mathlib.Core.Path.{◌≡◌}
use Rattle.dispatch.specs.Refusing.{lowest_no}
use Rattle.dispatch.proofs.Judging.{soon_after, active_after, lowest_of}
use Rattle.dispatch.proofs.lowest_early.Given as goal

abbrev pub invariant-loop-task : goal.invariant-loop-task
invariant-loop-task l = (lowest_no l.soon ≡ lowest_of l.fn.released (soon_after l.fn.plan l.fn.finished l.fn.state) l.task-index) × (lowest_no l.active ≡ lowest_of l.fn.released (active_after l.fn.plan l.fn.finished l.fn.state) l.task-index)
