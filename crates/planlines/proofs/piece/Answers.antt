use mathlib.Core.List.{append_assoc}
use Prim.Native.Nat.{◌+◌, ◌≤◌}
use native.Mathlib.Omega.{arith}
use lib.ListN.{length}
use Rattle.texts.proofs.Putting.{has_room, put_short, put_none, put_all, put_number, put_words, put_next}
use Rattle.texts.specs.Text.{ascii}
use Rattle.planlines.specs.Listing.{piece_text}
use Rattle.planlines.proofs.Lengths.{kind_few}
use Rattle.planlines.proofs.piece.Goals as goal

pub returns-then-is_short : goal.returns-then-is_short
returns-then-is_short c = put_short c.args.text.now c.is_short.ensures c.if-is_short.true

pub returns : goal.returns
unfolding piece_text ascii
returns c =
    let h : c.args.text.now.end + 69 ≤ length c.args.text.now.bytes.now = has_room c.is_short.ensures c.if-is_short.false in
    put_all (put_words (put_number (put_next (put_number (put_words (put_number (put_none c.args.text.now (omega arith)) 20 _ c.number.ensures (omega arith) (omega arith)) 21 (ascii " ") c.words.ensures (omega arith) (omega arith)) 41 _ c.number-2.ensures (omega arith) (omega arith)) 48 7 _ (kind_few c.args.piece.kind) c.kind.ensures (omega arith) (omega arith)) 68 _ c.number-3.ensures (omega arith) (omega arith)) 69 (ascii "\n") c.words-2.ensures (omega arith) (omega arith)) _ (simp append_assoc) 69 h
