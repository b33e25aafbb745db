use Prim.Native.Nat.{◌+◌, ◌≤◌}
use native.Mathlib.Omega.{arith}
use lib.ListN.{length}
use Rattle.texts.proofs.Putting.{has_room, put_short, put_wider}
use Rattle.texts.specs.Text.{ascii}
use Rattle.ticklines.proofs.on_core.Goals as goal

pub returns-then-is_short : goal.returns-then-is_short
returns-then-is_short c = put_short c.args.text.now c.is_short.ensures c.if-is_short.true

pub returns-in-None : goal.returns-in-None
unfolding ascii
returns-in-None c = let room : c.args.text.now.end + 20 ≤ length c.args.text.now.bytes.now = has_room c.is_short.ensures c.if-is_short.false in rw c.in-None.is (put_wider (ascii "-") 1 20 c.words.ensures (omega arith) room)
