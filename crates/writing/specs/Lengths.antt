-- How long the fields are.
use Rattle.std.specs.Prelude.{◌≡◌, length, refl}
use Rattle.tasks.specs.declared.Task.{Task}
use Rattle.plans.specs.declared.Piece.{Piece}
use Rattle.writing.specs.Fields.{task_field, piece_field}

pub task_field_length : (t : Task) → length (task_field t) ≡ 15
unfolding task_field
task_field_length t = refl

pub piece_field_length : (z : Piece) → length (piece_field z) ≡ 10
unfolding piece_field
piece_field_length z = refl
