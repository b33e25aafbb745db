use native.Mathlib.Omega.{arith}
use Rattle.texts.proofs.Putting.{has_room, put_short}
use Rattle.texts.proofs.Telling.{accepted_put, refused_put}
use Rattle.planlines.specs.Listing.{listing_most, lister_text}
use Rattle.planlines.proofs.lister.Goals as goal

pub returns-then-is_short : goal.returns-then-is_short
returns-then-is_short c = put_short c.args.text.now c.is_short.ensures c.if-is_short.true

pub returns-in-Ok : goal.returns-in-Ok
unfolding lister_text
returns-in-Ok c = accepted_put _ _ listing_most _ c.in-Ok.is (rw c.plan_table.ensures at c.planned.ensures)

pub returns-in-Err : goal.returns-in-Err
unfolding lister_text
returns-in-Err c = refused_put _ _ listing_most _ c.in-Err.is c.refusal.ensures (omega arith) (has_room c.is_short.ensures c.if-is_short.false)
