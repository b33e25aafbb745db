-- The costs of a task's pieces, one piece more at a time, and where it has no piece.
use mathlib.Core.Path.{◌≡◌, refl}
use mathlib.Core.Bool.{false, cond}
use Prim.Native.Nat.{ℕ, zero, suc, ◌+◌, ◌≤◌, ◌<◌}
use native.Mathlib.Decide.{ℕ_discrete}
use native.Mathlib.Omega.{arith}
use lib.Dec.{eqb}
use borrow.Author.Tests.{eq-eqb, ne_eqb}
use Rattle.tasks.proofs.Below.{sum_turn, sum_none}
use Rattle.tasks.specs.Below.{sum}
use Rattle.plans.specs.Pieces.{costs}
use Rattle.plans.specs.declared.Piece.{Piece}

pub costs_none : (pc : ℕ → Piece) (i : ℕ) → costs pc i 0 ≡ 0
unfolding costs sum
costs_none pc i = refl

-- with its own piece a task's costs are what they were and that piece's
pub costs_own : (pc : ℕ → Piece) (j : ℕ) → costs pc (pc j).task.0 (suc j) ≡ costs pc (pc j).task.0 j + (pc j).cost
unfolding costs sum
costs_own pc j = rw (eq-eqb (pc j).task.0 (pc j).task.0 refl)

pub costs_turn : (pc : ℕ → Piece) (i j acc r : ℕ) → acc ≡ costs pc i j → r ≡ cond (eqb (pc j).task.0 i) (pc j).cost 0 → acc + r ≡ costs pc i (j + 1)
unfolding costs
costs_turn pc i j acc r = sum_turn j _ acc r

-- where none of the first pieces is task i's, it costs nothing among them
pub costs_away : (pc : ℕ → Piece) (i k : ℕ) → ((j : ℕ) → j < k → eqb (pc j).task.0 i ≡ false) → costs pc i k ≡ 0
unfolding costs
costs_away pc i k h = sum_none k _ (λ j l. rw (h j l))

-- where no piece from j on is task i's, what it costs up to j it costs up to n
pub costs_over : (pc : ℕ → Piece) (i j n : ℕ) → j ≤ n → ((k : ℕ) → j ≤ k → k < n → (pc k).task.0 ≡ i → ⊥) → costs pc i n ≡ costs pc i j
unfolding costs sum
costs_over pc i j zero h none = let e : j ≡ 0 = omega arith in rw e
costs_over pc i j (suc n) h none = go (ℕ_discrete j (suc n)) (costs_over pc i j n)
  where
    go : Dec (j ≡ suc n) → (j ≤ n → ((k : ℕ) → j ≤ k → k < n → (pc k).task.0 ≡ i → ⊥) → costs pc i n ≡ costs pc i j) → costs pc i (suc n) ≡ costs pc i j
    go (yes e) ih = rw e
    go (no e) ih = rw (ne_eqb (pc n).task.0 i (none n (omega arith) (omega arith))) (omega (arith, ih (omega arith) (λ k a b. none k a (omega arith))))
