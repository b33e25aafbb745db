use Rattle.plans.proofs.Shaped.{order_read}
use Rattle.plans.proofs.in_place.Goals as goal

pub returns : goal.returns
returns c = λ pc e h. rw (c.index-3.ensures.0, c.index-2.ensures.0, c.follows.ensures, c.index.ensures.0, order_read pc c.args.j, e, h)
