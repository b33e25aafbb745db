-- Laws of interference. They rest on one: in length f·p + r with r at most p it is f·e + min e r.
use mathlib.Core.Path.{◌≡◌, refl, ap, ◌∙◌}
use mathlib.Core.Logic.{◌⊎◌, inl, inr}
use mathlib.Core.Bool.{Bool, true, false, cond}
use Prim.Native.Nat.{ℕ, zero, suc, ◌+◌, ◌-◌, ◌*◌, ◌/◌, ◌%◌, ◌≤◌, ◌<◌, min}
use native.Mathlib.Nat.{div-add-mod', mod-lt, le_refl, le_trans, add-zero, add-suc, add-sub_of_le, eq-or-lt_of_le, sub-add_cancel, le-div_iff_mul-le, mul-le-mul_right}
use native.Mathlib.Omega.{arith}
use lib.Dec.{leb}
use lib.Arith.{digits_div}
use borrow.Author.Tests.{leb-true, leb-false}
use Rattle.plans.specs.Interference.{interference, periods}

-- the two cases agree where they meet, at L = F·p + e
pub cases_meet : (e p F : ℕ) → e ≤ p → (F + 1) * e ≡ F * p + e - F * (p - e)
cases_meet e p F fits =
    let m : F * (p - e + e) ≡ F * p = ap (λ (x : ℕ). F * x) (sub-add_cancel fits) in
    omega arith

-- a length of at least 1 begins at least one period
pub some_period : (p L : ℕ) → 0 < p → 0 < L → 0 < periods p L
unfolding periods
some_period p L pos h = (le-div_iff_mul-le pos).1 (omega arith)

module _ (e p : ℕ) (pos : 0 < p) (fits : e ≤ p) where
  -- the document's two cases, with the quotient f at hand
  two_cases : (f r : ℕ) → r < p → (b : Bool) → leb (f * p + e) (f * p + r) ≡ b → cond b ((f + 1) * e) (f * p + r - f * (p - e)) ≡ f * e + min e r
  two_cases f r h true t = let k : f * p + e ≤ f * p + r = leb-true _ _ t in omega arith
  two_cases f r h false t =
      let k : f * p + r < f * p + e = leb-false _ _ t in
      let m : f * (p - e + e) ≡ f * p = ap (λ (x : ℕ). f * x) (sub-add_cancel fits) in
      omega arith

  below_period : (f r : ℕ) → r < p → interference e p (f * p + r) ≡ f * e + min e r
  unfolding interference
  below_period f r h = rw (digits_div f {m = p} {r = r} h) (two_cases f r h _ refl)

  pub at_periods : (f r : ℕ) → r ≤ p → interference e p (f * p + r) ≡ f * e + min e r
  at_periods f r h = go (eq-or-lt_of_le h)
    where
      go : (r ≡ p) ⊎ (r < p) → interference e p (f * p + r) ≡ f * e + min e r
      go (inr l) = below_period f r l
      go (inl q) =
          let n : interference e p ((f + 1) * p + 0) ≡ (f + 1) * e + min e 0 = below_period (f + 1) 0 pos in
          let m : interference e p (f * p + r) ≡ interference e p ((f + 1) * p + 0) = ap (interference e p) (omega arith) in
          omega arith

  -- to prove something of a length, prove it of f * p + r with r below p
  pub by_periods : (P : ℕ → Type 0) → ((f r : ℕ) → r < p → P (f * p + r)) → (l : ℕ) → P l
  by_periods P h l = rw (div-add-mod' l p) at (h (l / p) (l % p) (mod-lt l pos))

  pub short_length : (l : ℕ) → l ≤ p → interference e p l ≡ min e l
  short_length l h = ap (interference e p) (omega arith) ∙ at_periods 0 l h ∙ omega arith

  pub no_length : interference e p 0 ≡ 0
  no_length = short_length 0 (omega arith) ∙ omega arith

  pub one_period : (l : ℕ) → interference e p (l + p) ≡ e + interference e p l
  one_period = by_periods (λ l. interference e p (l + p) ≡ e + interference e p l) go
    where
      go : (f r : ℕ) → r < p → interference e p (f * p + r + p) ≡ e + interference e p (f * p + r)
      go f r h =
          let n : interference e p ((f + 1) * p + r) ≡ (f + 1) * e + min e r = below_period (f + 1) r h in
          let m : interference e p (f * p + r + p) ≡ interference e p ((f + 1) * p + r) = ap (interference e p) (omega arith) in
          let k : interference e p (f * p + r) ≡ f * e + min e r = below_period f r h in
          omega arith

  -- one tick more: no less, and at most one more
  pub one_tick : (l : ℕ) → (interference e p l ≤ interference e p (suc l)) × (interference e p (suc l) ≤ suc (interference e p l))
  one_tick = by_periods (λ l. (interference e p l ≤ interference e p (suc l)) × (interference e p (suc l) ≤ suc (interference e p l))) go
    where
      go : (f r : ℕ) → r < p → (interference e p (f * p + r) ≤ interference e p (suc (f * p + r))) × (interference e p (suc (f * p + r)) ≤ suc (interference e p (f * p + r)))
      go f r h =
          let n : interference e p (f * p + suc r) ≡ f * e + min e (suc r) = at_periods f (suc r) h in
          let m : interference e p (suc (f * p + r)) ≡ interference e p (f * p + suc r) = ap (interference e p) (omega arith) in
          let k : interference e p (f * p + r) ≡ f * e + min e r = below_period f r h in
          omega arith

  pub longer : (l k : ℕ) → interference e p l ≤ interference e p (l + k)
  longer l zero = rw (add-zero l) (le_refl _)
  longer l (suc k) = rw (add-suc l k) (le_trans (longer l k) (one_tick (l + k)).0)

  pub monotone : {l l' : ℕ} → l ≤ l' → interference e p l ≤ interference e p l'
  monotone {l} {l'} h = rw (add-sub_of_le h) at (longer l (l' - l))

  pub within_length : (l : ℕ) → interference e p l ≤ l
  within_length zero = omega (arith, no_length)
  within_length (suc l) = omega (arith, within_length l, (one_tick l).1)

  pub within_periods : (l : ℕ) → interference e p l ≤ periods p l * e
  unfolding periods
  within_periods = by_periods (λ l. interference e p l ≤ periods p l * e) go
    where
      go : (f r : ℕ) → r < p → interference e p (f * p + r) ≤ periods p (f * p + r) * e
      go f zero h =
          let n : f ≤ (f * p + zero + (p - 1)) / p = (le-div_iff_mul-le pos).1 (omega arith) in
          omega (arith, below_period f 0 h, mul-le-mul_right e n)
      go f (suc r) h =
          let n : f + 1 ≤ (f * p + suc r + (p - 1)) / p = (le-div_iff_mul-le pos).1 (omega arith) in
          omega (arith, below_period f (suc r) h, mul-le-mul_right e n)
