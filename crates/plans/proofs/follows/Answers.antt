use mathlib.Core.Path.{◌∙◌}
use Rattle.plans.specs.Shape.{follows}
use Rattle.plans.proofs.SameKind.{same_share}
use Rattle.plans.proofs.follows.Goals as goal

pub returns : goal.returns
unfolding follows
returns c = rw (c.eq.ensures ∙ same_share c.args.a.kind, c.eq-2.ensures ∙ same_share c.args.b.kind, c.index-2.ensures.0, c.index.ensures.0, c.index-k.ensures.0, c.index-i.ensures.0)
