-- Laws of tests and sums over the numbers below n.
use mathlib.Core.Path.{◌≡◌, refl, sym, ap}
use mathlib.Core.Bool.{Bool, true, false, not, ◌&&◌, ◌||◌, cond}
use mathlib.Core.List.{List}
use mathlib.Core.Logic.{◌⊎◌, inl, inr, ⊎_elim}
use Prim.Native.Nat.{ℕ, zero, suc, ◌+◌, ◌*◌, ◌≤◌, ◌<◌}
use native.Mathlib.Decide.{ℕ_discrete}
use native.Mathlib.Nat.{le_refl, suc-mul}
use native.Mathlib.Numerals.{add-one}
use native.Mathlib.Omega.{arith}
use lib.Arith.{le-zero}
use borrow.Author.Tests.{not-false}
use Rattle.tasks.proofs.Bools.{clash, either, both, both_make, not_first, not_second, one_of, left_one, right_one, neither}
use Rattle.tasks.specs.Below.{all, any, first, sum, count, row}

-- below suc n is below n, or n
under : {j n : ℕ} → j < suc n → (j < n) ⊎ (j ≡ n)
under {j} {n} h = go (ℕ_discrete j n)
  where
    go : Dec (j ≡ n) → (j < n) ⊎ (j ≡ n)
    go (yes e) = inr e
    go (no e) = inl (omega arith)

-- ---- all
pub all_each : (n : ℕ) (f : ℕ → Bool) → all n f ≡ true → (j : ℕ) → j < n → f j ≡ true
unfolding all
all_each zero f h j l = absurd (omega arith)
all_each (suc n) f h j l = go (under l) (all_each n f (both {a = all n f} h).0 j)
  where
    go : (j < n) ⊎ (j ≡ n) → (j < n → f j ≡ true) → f j ≡ true
    go (inl k) ih = ih k
    go (inr e) ih = rw e (both {a = all n f} h).1

pub all_make : (n : ℕ) (f : ℕ → Bool) → ((j : ℕ) → j < n → f j ≡ true) → all n f ≡ true
unfolding all
all_make zero f h = refl
all_make (suc n) f h = both_make (all_make n f (λ j l. h j (omega arith))) (h n (omega arith))

pub all_fails : (n : ℕ) (f : ℕ → Bool) (j : ℕ) → j < n → f j ≡ false → all n f ≡ false
unfolding all
all_fails zero f j l e = absurd (omega arith)
all_fails (suc n) f j l e = go (under l) (all_fails n f j)
  where
    go : (j < n) ⊎ (j ≡ n) → (j < n → f j ≡ false → all n f ≡ false) → all n f && f n ≡ false
    go (inl k) ih = not_first (f n) (ih k e)
    go (inr q) ih = not_second (all n f) (rw q at e)

pub all_more : (i : ℕ) (f : ℕ → Bool) → all i f ≡ true → f i ≡ true → all (i + 1) f ≡ true
unfolding all
all_more i f h e = rw (add-one, all, h) e

pub all_same : (n : ℕ) (f g : ℕ → Bool) → ((j : ℕ) → j < n → f j ≡ g j) → all n f ≡ all n g
unfolding all
all_same zero f g h = refl
all_same (suc n) f g h = rw (all_same n f g (λ j l. h j (omega arith)), h n (omega arith))

-- ---- any
pub record Found (n : ℕ) (f : ℕ → Bool) : Type 0 where
  pub place : ℕ
  pub below : place < n
  pub holds : f place ≡ true

pub any_found : (n : ℕ) (f : ℕ → Bool) → any n f ≡ true → Found n f
unfolding any
any_found zero f h = clash h refl
any_found (suc n) f h = go (one_of {a = any n f} h) (any_found n f)
  where
    go : (any n f ≡ true) ⊎ (f n ≡ true) → (any n f ≡ true → Found n f) → Found (suc n) f
    go (inl k) ih = let r : Found n f = ih k in record { place = r.place; below = omega (arith, r.below); holds = r.holds }
    go (inr e) ih = record { place = n; below = omega arith; holds = e }

pub any_make : (n : ℕ) (f : ℕ → Bool) (j : ℕ) → j < n → f j ≡ true → any n f ≡ true
unfolding any
any_make zero f j l e = absurd (omega arith)
any_make (suc n) f j l e = go (under l) (any_make n f j)
  where
    go : (j < n) ⊎ (j ≡ n) → (j < n → f j ≡ true → any n f ≡ true) → any n f || f n ≡ true
    go (inl k) ih = left_one (f n) (ih k e)
    go (inr q) ih = right_one (any n f) (rw q at e)

pub any_each : (n : ℕ) (f : ℕ → Bool) → any n f ≡ false → (j : ℕ) → j < n → f j ≡ false
any_each n f h j l = ⊎_elim (λ e. clash (any_make n f j l e) h) (λ e. e) (either (f j))

-- where not all pass, one fails
pub all_found : (n : ℕ) (f : ℕ → Bool) → all n f ≡ false → Found n (λ k. not (f k))
all_found n f h = go (either (any n (λ k. not (f k))))
  where
    go : (any n (λ k. not (f k)) ≡ true) ⊎ (any n (λ k. not (f k)) ≡ false) → Found n (λ k. not (f k))
    go (inl e) = any_found n _ e
    go (inr e) = clash (all_make n f (λ j l. not-false _ (any_each n _ e j l))) h

pub any_none : (n : ℕ) (f : ℕ → Bool) → ((j : ℕ) → j < n → f j ≡ false) → any n f ≡ false
unfolding any
any_none zero f h = refl
any_none (suc n) f h = rw (any_none n f (λ j l. h j (omega arith)), h n (omega arith))

pub any_more : (i : ℕ) (f : ℕ → Bool) → any (i + 1) f ≡ any i f || f i
unfolding any
any_more i f = rw add-one

pub any_same : (n : ℕ) (f g : ℕ → Bool) → ((j : ℕ) → j < n → f j ≡ g j) → any n f ≡ any n g
unfolding any
any_same zero f g h = refl
any_same (suc n) f g h = rw (any_same n f g (λ j l. h j (omega arith)), h n (omega arith))

-- ---- the first
pub first_holds : (n : ℕ) (f : ℕ → Bool) → any n f ≡ true → (first n f < n) × (f (first n f) ≡ true)
unfolding first any
first_holds zero f h = clash h refl
first_holds (suc n) f h = go _ _ refl refl (first_holds n f)
  where
    go : (b c : Bool) → any n f ≡ b → f n ≡ c → (any n f ≡ true → (first n f < n) × (f (first n f) ≡ true))
        → (cond (any n f) (first n f) (cond (f n) n (suc n)) < suc n) × (f (cond (any n f) (first n f) (cond (f n) n (suc n))) ≡ true)
    go true c u w ih = rw u (omega (arith, (ih u).0), (ih u).1)
    go false true u w ih = rw (u, w) (omega arith, w)
    go false false u w ih = clash h (rw (u, w))

pub first_none : (n : ℕ) (f : ℕ → Bool) → any n f ≡ false → first n f ≡ n
unfolding first any
first_none zero f h = refl
first_none (suc n) f h = let p : (any n f ≡ false) × (f n ≡ false) = neither {a = any n f} h in rw (p.0, p.1)

pub first_le : (n : ℕ) (f : ℕ → Bool) (j : ℕ) → j < n → f j ≡ true → first n f ≤ j
unfolding first
first_le zero f j l e = absurd (omega arith)
first_le (suc n) f j l e = go _ refl (under l) (first_le n f j)
  where
    go : (b : Bool) → any n f ≡ b → (j < n) ⊎ (j ≡ n) → (j < n → f j ≡ true → first n f ≤ j) → cond (any n f) (first n f) (cond (f n) n (suc n)) ≤ j
    go true u (inl k) ih = rw u (ih k e)
    go true u (inr q) ih = rw u (omega (arith, (first_holds n f u).0))
    go false u (inl k) ih = clash e (any_each n f u j k)
    go false u (inr q) ih = rw (u, rw q at e) (omega arith)

-- what is before the first does not pass
pub first_before : (n : ℕ) (f : ℕ → Bool) (j : ℕ) → j < first n f → f j ≡ false
first_before n f j l = ⊎_elim (λ e. absurd (late e)) (λ e. e) (either (f j))
  where
    most : first n f ≤ n
    most = ⊎_elim (λ e. omega (arith, (first_holds n f e).0)) (λ e. omega (arith, first_none n f e)) (either (any n f))

    late : f j ≡ true → ⊥
    late e = omega (arith, most, first_le n f j (omega (arith, most)) e)

pub first_is : (n : ℕ) (f : ℕ → Bool) (k : ℕ) → k < n → f k ≡ true → ((j : ℕ) → j < k → f j ≡ false) → first n f ≡ k
first_is n f k l e h = go (ℕ_discrete (first n f) k)
  where
    q : (first n f < n) × (f (first n f) ≡ true)
    q = first_holds n f (any_make n f k l e)

    go : Dec (first n f ≡ k) → first n f ≡ k
    go (yes d) = d
    go (no d) = clash q.1 (h (first n f) (omega (arith, first_le n f k l e)))

pub first_same : (n : ℕ) (f g : ℕ → Bool) → ((j : ℕ) → j < n → f j ≡ g j) → first n f ≡ first n g
unfolding first
first_same zero f g h = refl
first_same (suc n) f g h = rw (first_same n f g (λ j l. h j (omega arith)), any_same n f g (λ j l. h j (omega arith)), h n (omega arith))

-- ---- sums
sum_more : (n : ℕ) (f : ℕ → ℕ) → sum (n + 1) f ≡ sum n f + f n
unfolding sum
sum_more n f = rw add-one

-- a turn of a loop that adds up
pub sum_turn : (n : ℕ) (f : ℕ → ℕ) (acc r : ℕ) → acc ≡ sum n f → r ≡ f n → acc + r ≡ sum (n + 1) f
sum_turn n f acc r e h = rw (e, h) (sym (sum_more n f))

pub sum_add : (n : ℕ) (f h g : ℕ → ℕ) → ((j : ℕ) → j < n → f j + h j ≤ g j) → sum n f + sum n h ≤ sum n g
unfolding sum
sum_add zero f h g k = omega arith
sum_add (suc n) f h g k = omega (arith, sum_add n f h g (λ j l. k j (omega arith)), k n (omega arith))

pub sum_le : (n : ℕ) (f g : ℕ → ℕ) → ((j : ℕ) → j < n → f j ≤ g j) → sum n f ≤ sum n g
unfolding sum
sum_le zero f g k = omega arith
sum_le (suc n) f g k = omega (arith, sum_le n f g (λ j l. k j (omega arith)), k n (omega arith))

pub sum_most : (n most : ℕ) (f : ℕ → ℕ) → ((j : ℕ) → j < n → f j ≤ most) → sum n f ≤ n * most
unfolding sum
sum_most zero most f h = omega arith
sum_most (suc n) most f h = omega (arith, sum_most n most f (λ j l. h j (omega arith)), h n (omega arith), suc-mul n most)

pub sum_up : (n k : ℕ) (f : ℕ → ℕ) → n ≤ k → sum n f ≤ sum k f
unfolding sum
sum_up n zero f h = rw (le-zero h) (le_refl _)
sum_up n (suc k) f h = go (ℕ_discrete n (suc k)) (sum_up n k f)
  where
    go : Dec (n ≡ suc k) → (n ≤ k → sum n f ≤ sum k f) → sum n f ≤ sum k f + f k
    go (yes q) ih = rw q (le_refl _)
    go (no q) ih = omega (arith, ih (omega arith))

pub sum_member : (n : ℕ) (f : ℕ → ℕ) (j : ℕ) → j < n → f j ≤ sum n f
unfolding sum
sum_member n f j h = omega (arith, sum_up (suc j) n f h)

pub sum_same : (n : ℕ) (f g : ℕ → ℕ) → ((j : ℕ) → j < n → f j ≡ g j) → sum n f ≡ sum n g
unfolding sum
sum_same zero f g k = refl
sum_same (suc n) f g k = omega (arith, sum_same n f g (λ j l. k j (omega arith)), k n (omega arith))

pub sum_none : (n : ℕ) (f : ℕ → ℕ) → ((j : ℕ) → j < n → f j ≡ 0) → sum n f ≡ 0
unfolding sum
sum_none zero f h = refl
sum_none (suc n) f h = omega (arith, sum_none n f (λ j l. h j (omega arith)), h n (omega arith))

sum_ones : (n : ℕ) → sum n (λ j. 1) ≡ n
unfolding sum
sum_ones zero = refl
sum_ones (suc n) = omega (arith, sum_ones n)

pub count_more : (n : ℕ) (f : ℕ → Bool) → count (n + 1) f ≡ count n f + cond (f n) 1 0
unfolding count
count_more n f = sum_more n (λ k. cond (f k) 1 0)

pub count_le : (n : ℕ) (f : ℕ → Bool) → count n f ≤ n
unfolding count
count_le n f = omega (arith, sum_le n (λ k. cond (f k) 1 0) (λ k. 1) (λ j l. go (f j)), sum_ones n)
  where
    go : (b : Bool) → cond b 1 0 ≤ 1
    go true = omega arith
    go false = omega arith

pub count_same : (n : ℕ) (f g : ℕ → Bool) → ((j : ℕ) → j < n → f j ≡ g j) → count n f ≡ count n g
unfolding count
count_same n f g h = sum_same n (λ k. cond (f k) 1 0) (λ k. cond (g k) 1 0) (λ j l. ap (λ (b : Bool). cond b 1 0) (h j l))

-- ---- row

-- rows of the same lists are the same
pub row_same : {A : Type 0} (n : ℕ) (f g : ℕ → List A) → ((i : ℕ) → i < n → f i ≡ g i) → row n f ≡ row n g
unfolding row
row_same zero f g h = refl
row_same (suc n) f g h = rw (row_same n f g (λ i l. h i (omega arith)), h n (omega arith))
