use Rattle.tasks.specs.Below.{row}
use Prim.Native.Nat.{◌*◌}
use Rattle.plans.specs.Pieces.{piece_of}
use Rattle.texts.proofs.Putting.{Put}
use Rattle.planlines.specs.Listing.{piece_text}
use Rattle.planlines.proofs.listing.Given as goal

abbrev pub invariant-loop-z : goal.invariant-loop-z
invariant-loop-z l = Put l.initial.text (l.z-index * 69) (row l.z-index (λ k. piece_text (piece_of l.fn.plan k))) l.text
