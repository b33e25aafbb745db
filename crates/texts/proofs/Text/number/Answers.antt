use native.Mathlib.Omega.{arith}
use Rattle.std.proofs.lemmas.Fmt.{length-decimal-le}
use Rattle.texts.proofs.Putting.{put_short, has_room, digits_put}
use Rattle.texts.proofs.Text.number.Goals as goal

pub returns-then-is_short : goal.returns-then-is_short
returns-then-is_short c = put_short c.args.self.now c.is_short.ensures c.if-is_short.true

pub write_digits-start-requires : goal.write_digits-start-requires
write_digits-start-requires c = (length-decimal-le 20 c.args.n (omega arith) (omega arith) (omega arith), omega arith)

pub returns : goal.returns
returns c = digits_put c.args.n _ c.write_digits-start.result c.ranges.n.fits c.write_digits-start.ensures.start c.write_digits-start.ensures.written c.words.ensures (has_room c.is_short.ensures c.if-is_short.false)
