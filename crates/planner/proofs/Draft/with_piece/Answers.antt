use mathlib.Core.Path.{refl}
use Rattle.planner.specs.Whole.{put}
use Rattle.planner.proofs.Draft.with_piece.Goals as goal

pub returns : goal.returns
unfolding put
returns c = refl
