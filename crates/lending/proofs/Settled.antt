-- The contract of `lent_bound` settles its result.
use mathlib.Core.List.{List}
use mathlib.Core.Path.{◌≡◌}
use Prim.Native.Nat.{ℕ}
use Rattle.std.specs.Prelude.{Result}
use Rattle.tasks.specs.declared.Refusal.{Refusal}
use Rattle.tasks.specs.declared.Table.{Table}
use Rattle.tasks.proofs.Settling.{settled}
use Rattle.bounds.specs.declared.Bounding.{Bounding}
use Rattle.plans.specs.declared.Piece.{Piece}
use Rattle.lending.specs.Lent.{bound_lent}

pub lent_bound_settled : (t : Table) (ys : List Piece) (q : ℕ) (r s : Result Bounding Refusal) → r ≡ bound_lent t ys q → s ≡ bound_lent t ys q → r ≡ s
lent_bound_settled t ys q r s = settled
