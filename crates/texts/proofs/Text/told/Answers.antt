use Rattle.texts.proofs.Putting.{put_short, has_room}
use Rattle.texts.proofs.Telling.{told_none}
use Rattle.texts.specs.Telling.{told_text}
use Rattle.texts.proofs.Text.told.Goals as goal

pub returns-then-is_short : goal.returns-then-is_short
returns-then-is_short c = put_short c.args.self.now c.is_short.ensures c.if-is_short.true

pub returns-in-NoPlanShape : goal.returns-in-NoPlanShape
unfolding told_text
returns-in-NoPlanShape c = rw c.in-NoPlanShape.is (told_none 8 c.number.ensures (has_room c.is_short.ensures c.if-is_short.false))

pub returns-in-NotWellMade : goal.returns-in-NotWellMade
unfolding told_text
returns-in-NotWellMade c = rw c.in-NotWellMade.is (told_none 9 c.number-in-NotWellMade.ensures (has_room c.is_short.ensures c.if-is_short.false))
