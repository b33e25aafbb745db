use Rattle.writing.specs.Fields.{piece_field}
use Rattle.writing.proofs.Writing.{kind_tag}
use Rattle.writing.proofs.PieceField.put.Goals as goal

pub returns : goal.returns
unfolding piece_field
returns c = simp (c.put4.ensures) (rw (kind_tag c.args.self.kind))
