use mathlib.Core.Path.{◌≡◌}
use Rattle.bounds.specs.Bound as bounds
use Rattle.bounds.specs.Leaves.{listed}
use Rattle.plans.specs.Pieces.{task_of, piece_of}
use Rattle.bounds.proofs.load.Given as goal

abbrev pub invariant-loop-z : goal.invariant-loop-z
invariant-loop-z l = let w = listed l.tasks l.pieces in l.load ≡ bounds.load (task_of w) (piece_of w) l.z-index l.b l.l
