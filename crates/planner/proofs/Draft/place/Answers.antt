use mathlib.Core.Path.{sym, ◌∙◌}
use Rattle.planner.proofs.Placing.{placed_whole, placed_shared}
use Rattle.planner.proofs.Draft.place.Goals as goal

pub returns-in-Some : goal.returns-in-Some
returns-in-Some c = rw (c.with_piece-placed.ensures, c.index.ensures.0) (sym (placed_whole _ _ _ (sym c.lowest_whole.ensures ∙ c.in-Some.is)))

pub returns-in-None : goal.returns-in-None
returns-in-None c = c.share_out.ensures ∙ sym (placed_shared _ _ (sym c.lowest_whole.ensures ∙ c.in-None.is))
