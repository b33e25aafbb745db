use Rattle.planner.specs.Shared.{give_share}
use Rattle.planner.proofs.Draft.give.Goals as goal

pub returns : goal.returns
unfolding give_share
returns c = c.with_piece.ensures
