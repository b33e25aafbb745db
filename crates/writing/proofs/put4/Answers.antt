use mathlib.Core.Path.{refl, ◌∙◌}
use native.Mathlib.Omega.{arith}
use Rattle.writing.specs.Fields.{bytes4}
use Rattle.writing.proofs.Writing.{part_written}
use Rattle.writing.proofs.put4.Goals as goal

pub returns : goal.returns
returns c = part_written c.args.out.now _ (bytes4 c.args.x) c.args.at 4 (c.copy_from_slice.ensures.after ∙ c.to_be_bytes.ensures) refl (omega arith)
