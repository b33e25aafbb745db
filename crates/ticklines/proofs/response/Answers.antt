use mathlib.Core.List.{append_assoc}
use Prim.Native.Nat.{◌+◌, ◌≤◌}
use native.Mathlib.Omega.{arith}
use lib.ListN.{length}
use Rattle.texts.proofs.Putting.{has_room, put_short, put_none, put_all, put_number, put_words}
use Rattle.texts.specs.Text.{ascii}
use Rattle.ticklines.specs.Responses.{response_text}
use Rattle.ticklines.proofs.response.Goals as goal

pub returns-then-is_short : goal.returns-then-is_short
returns-then-is_short c = put_short c.args.text.now c.is_short.ensures c.if-is_short.true

pub returns : goal.returns
unfolding response_text ascii
returns c = let h : c.args.text.now.end + 86 ≤ length c.args.text.now.bytes.now = has_room c.is_short.ensures c.if-is_short.false in put_all (put_words (put_number (put_words (put_number (put_words (put_number (put_words (put_none c.args.text.now (omega arith)) 5 (ascii "task ") c.words.ensures (omega arith) (omega arith)) 25 _ c.number.ensures (omega arith) (omega arith)) 35 (ascii " response ") c.words-2.ensures (omega arith) (omega arith)) 55 _ c.number-2.ensures (omega arith) (omega arith)) 65 (ascii " deadline ") c.words-3.ensures (omega arith) (omega arith)) 85 _ c.number-3.ensures (omega arith) (omega arith)) 86 (ascii "\n") c.words-4.ensures (omega arith) (omega arith)) _ (simp append_assoc) 86 h
