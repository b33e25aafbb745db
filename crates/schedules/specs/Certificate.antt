-- The certificate of a plan, with the rank and a limit for each last piece as parameters.
use Rattle.std.specs.Prelude.{◌≡◌, true, false, cond, ℕ, ◌+◌, ◌≤◌, ◌<◌}
use Rattle.tasks.specs.Below.{sum}
use Rattle.plans.specs.Interference.{interference}
use Rattle.schedules.specs.Model.{Model}

-- rank is a strict order; nothing ranks above a piece that is not its task's last;
-- and each last piece's cost and the interference of every piece above it, in the length of its limit, are within the limit
pub record Certificate (M : Model) (limit : ℕ → ℕ) : Type 0 where
  pub strict : (j : ℕ) → M.above j j ≡ false
  pub chain : (i j k : ℕ) → M.above i j ≡ true → M.above j k ≡ true → M.above i k ≡ true
  pub top : (j k : ℕ) → j < M.pieces → k < M.pieces → M.last k ≡ false → M.above j k ≡ false
  pub bound : (q : ℕ) → q < M.pieces → M.last q ≡ true → M.cost q + sum M.pieces (λ j. cond (M.above j q) (interference (M.cost j) (M.period (M.task j)) (limit q)) 0) ≤ limit q

-- earlier costs and limit are within the deadline
abbrev pub Timely : Model → (limit deadline : ℕ → ℕ) → Type 0
Timely M limit deadline = (q : ℕ) → q < M.pieces → M.last q ≡ true → M.off q + limit q ≤ deadline (M.task q)
