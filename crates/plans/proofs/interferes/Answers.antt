use borrow.Author.Tests.{le-leb, lt-leb}
use Rattle.plans.specs.Interference.{interference}
use Rattle.plans.proofs.interferes.Goals as goal

pub returns-then-f-p : goal.returns-then-f-p
unfolding interference
returns-then-f-p c = simp (le-leb _ _ c.if-f-p.true)

pub returns-else-f-p : goal.returns-else-f-p
unfolding interference
returns-else-f-p c = simp (lt-leb _ _ c.if-f-p.false)
