-- The numbers below n: whether all of them pass a test, whether any does, which is the first, what they add up to, and the lists they make.
use Rattle.std.specs.Prelude.{Bool, true, false, ◌&&◌, ◌||◌, cond, List, [], ◌∷◌, ◌++◌, ℕ, zero, suc, ◌+◌, ltb}

unfoldable pub all : ℕ → (ℕ → Bool) → Bool
all zero f = true
all (suc n) f = all n f && f n

unfoldable pub any : ℕ → (ℕ → Bool) → Bool
any zero f = false
any (suc n) f = any n f || f n

-- the lowest number below n that passes, or n
unfoldable pub first : ℕ → (ℕ → Bool) → ℕ
first zero f = 0
first (suc n) f = cond (any n f) (first n f) (cond (f n) n (suc n))

unfoldable pub sum : ℕ → (ℕ → ℕ) → ℕ
sum zero f = 0
sum (suc n) f = sum n f + f n

-- how many of the numbers below n pass
unfoldable pub count : ℕ → (ℕ → Bool) → ℕ
count n f = sum n (λ k. cond (f k) 1 0)

-- f 0, f 1, and so on below n
unfoldable pub tabulate : {A : Type 0} → ℕ → (ℕ → A) → List A
tabulate zero f = []
tabulate (suc n) f = f 0 ∷ tabulate n (λ k. f (suc k))

-- a record's list of `size` entries, of which the first n are f 0, f 1, and so on, and the others `empty`
unfoldable pub padded : {A : Type 0} → ℕ → ℕ → A → (ℕ → A) → List A
padded size n empty f = tabulate size (λ k. cond (ltb k n) (f k) empty)

-- the lists f 0, f 1, and so on below n, one behind the other
unfoldable pub row : {A : Type 0} → ℕ → (ℕ → List A) → List A
row zero f = []
row (suc n) f = row n f ++ f n
