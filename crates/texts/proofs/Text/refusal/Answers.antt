use mathlib.Core.List.{append_assoc}
use Prim.Native.Nat.{◌+◌, ◌≤◌}
use native.Mathlib.Omega.{arith}
use lib.ListN.{length}
use Rattle.texts.proofs.Putting.{has_room, put_short, put_none, put_all, put_words, put_next}
use Rattle.texts.specs.Text.{ascii}
use Rattle.texts.specs.Telling.{refusal_text}
use Rattle.texts.proofs.Telling.{told_few}
use Rattle.texts.proofs.Text.refusal.Goals as goal

pub returns-then-is_short : goal.returns-then-is_short
returns-then-is_short c = put_short c.args.self.now c.is_short.ensures c.if-is_short.true

pub returns : goal.returns
unfolding refusal_text ascii
returns c =
    let h : c.args.self.now.end + 56 ≤ length c.args.self.now.bytes.now = has_room c.is_short.ensures c.if-is_short.false in
    put_all (put_words (put_next (put_words (put_none c.args.self.now (omega arith)) 8 (ascii "refused ") c.words.ensures (omega arith) (omega arith)) 55 47 _ (told_few c.args.refusal) c.told.ensures (omega arith) (omega arith)) 56 (ascii "\n") c.words-2.ensures (omega arith) (omega arith)) _ (simp append_assoc) 56 h
