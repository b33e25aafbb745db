use borrow.Author.Tests.{le-leb, lt-leb}
use Rattle.plans.specs.Margins.{margin}
use Rattle.plans.proofs.margin_of.Goals as goal

pub returns-then-bound-deadline : goal.returns-then-bound-deadline
unfolding margin
returns-then-bound-deadline c = simp (le-leb _ _ c.if-bound-deadline.true)

pub returns-else-bound-deadline : goal.returns-else-bound-deadline
unfolding margin
returns-else-bound-deadline c = simp (lt-leb _ _ c.if-bound-deadline.false)
