use native.Mathlib.Omega.{arith}
use Rattle.texts.proofs.Putting.{has_room, put_short}
use Rattle.texts.proofs.Telling.{refused_put}
use Rattle.ticklines.specs.Lines.{ran_most}
use Rattle.ticklines.proofs.ran.Goals as goal

pub returns-then-is_short : goal.returns-then-is_short
returns-then-is_short c = put_short c.args.text.now c.is_short.ensures c.if-is_short.true

pub returns-in-Err : goal.returns-in-Err
returns-in-Err c = refused_put _ _ ran_most _ c.in-Err.is c.refusal.ensures (omega arith) (has_room c.is_short.ensures c.if-is_short.false)
