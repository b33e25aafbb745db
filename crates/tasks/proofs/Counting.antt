-- Laws of how many of the numbers below n pass a test.
use mathlib.Core.Path.{◌≡◌, refl}
use mathlib.Core.Bool.{Bool, true, false, cond}
use Prim.Native.Nat.{ℕ, zero, suc, ◌≤◌, ◌<◌}
use native.Mathlib.Decide.{ℕ_discrete}
use native.Mathlib.Omega.{arith}
use Rattle.tasks.proofs.Below.{sum_le}
use Rattle.tasks.proofs.Bools.{clash}
use Rattle.tasks.specs.Below.{sum, count}

-- what passes f passes g
one_le : (b c : Bool) → (b ≡ true → c ≡ true) → cond b 1 0 ≤ cond c 1 0
one_le true true h = omega arith
one_le true false h = clash (h refl) refl
one_le false true h = omega arith
one_le false false h = omega arith

count_up : (n : ℕ) (f g : ℕ → Bool) → ((k : ℕ) → k < n → f k ≡ true → g k ≡ true) → count n f ≤ count n g
unfolding count
count_up n f g h = sum_le n _ _ (λ k l. one_le (f k) (g k) (h k l))

-- and a number that passes g fails f
pub count_fewer : (n : ℕ) (f g : ℕ → Bool) → ((k : ℕ) → k < n → f k ≡ true → g k ≡ true) → (j : ℕ) → j < n → f j ≡ false → g j ≡ true → count n f < count n g
unfolding count sum
count_fewer zero f g h j l e t = absurd (omega arith)
count_fewer (suc n) f g h j l e t = go (ℕ_discrete j n) (count_fewer n f g (λ k b. h k (omega arith)) j)
  where
    go : Dec (j ≡ n) → (j < n → f j ≡ false → g j ≡ true → count n f < count n g) → count (suc n) f < count (suc n) g
    go (yes q) ih = rw (rw q at e, rw q at t) (omega (arith, count_up n f g (λ k b. h k (omega arith))))
    go (no q) ih = omega (arith, ih (omega arith) e t, one_le (f n) (g n) (h n (omega arith)))
