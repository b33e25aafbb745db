-- The certificate of a plan: why no job of it is late. It is a property of the plan, not of how it was made.
use Rattle.std.specs.Prelude.{◌≡◌, true, false, ℕ, ◌≤◌, ◌<◌}
use Rattle.tasks.specs.declared.Task.{Task}
use Rattle.bounds.specs.Bound.{local_deadline, bound}
use Rattle.plans.specs.Rank.{above}
use Rattle.plans.specs.Shape.{is_last}
use Rattle.plans.specs.declared.Piece.{Piece}

-- of n pieces, each task's last has a bound within its local deadline, and nothing ranks above any other piece
pub record Certified (ts : ℕ → Task) (pc : ℕ → Piece) (n : ℕ) : Type 0 where
  pub within : (q : ℕ) → q < n → is_last pc n q ≡ true → bound ts pc n q ≤ local_deadline ts pc q
  pub top : (j k : ℕ) → j < n → k < n → is_last pc n k ≡ false → above ts (pc j) (pc k) ≡ false
