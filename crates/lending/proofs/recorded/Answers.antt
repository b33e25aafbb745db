use native.Mathlib.Omega.{arith}
use mathlib.Core.Path.{refl}
use lib.ListN.{length}
use Rattle.bounds.proofs.Filled.{filled}
use Rattle.plans.specs.Pieces.{no_piece}
use Rattle.lending.specs.Recorded.{recorded}
use Rattle.lending.proofs.recorded.Goals as goal

pub returns : goal.returns
unfolding recorded
returns c = rw (filled 128 c.min-n.result (length c.args.pieces.now) no_piece c.args.pieces.now _ _ c.min-n.ensures (omega arith) c.copy_from_slice.ensures.after refl)
