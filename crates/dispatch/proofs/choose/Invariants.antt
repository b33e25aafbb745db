use mathlib.Core.Path.{◌≡◌}
use Rattle.tasks.specs.Below.{padded}
use Rattle.jobs.specs.Jobs.{no_run}
use Rattle.dispatch.specs.Choice.{StandsOf, found}
use Rattle.dispatch.specs.declared.State.{State}
use Rattle.dispatch.proofs.choose.Given as goal

abbrev pub invariant-loop-i : goal.invariant-loop-i
invariant-loop-i l = (s : State) → StandsOf l.fn.plan s l.fn.stands → l.runs ≡ padded 16 l.fn.plan.cores no_run (found l.fn.plan s l.i)
