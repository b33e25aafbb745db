-- What a good field is known to be.
use mathlib.Core.Path.{◌≡◌, refl}
use mathlib.Core.Bool.{Bool, true, false, not, ◌&&◌, cond}
use mathlib.Core.List.{List}
use mathlib.Core.Logic.{◌⊎◌, inl, inr}
use Prim.Native.Nat.{ℕ, ◌+◌, ◌≤◌, ◌<◌}
use native.Mathlib.Decide.{ℕ_discrete}
use native.Mathlib.Omega.{arith}
use lib.Dec.{leb, ltb, eqb}
use lib.ListN.{get_or}
use borrow.Author.Tests.{leb-true, ltb-false, eqb-true, eq-eqb, ne_eqb, not-false}
use Rattle.tasks.proofs.Bools.{clash}
use Rattle.tasks.specs.Tables.{cores_fit, values_fit}
use Rattle.files.specs.Grammar.{number2, length_for, tag_of, task_of_field, values_fault}
use Rattle.files.specs.Fields.{tag, tag_fits, verdict}
use Rattle.files.specs.declared.Field.{Field}

-- ---- the values

-- what passes a test has no number
good_test : (b : Bool) (x : ℕ) → 0 < x → cond b 0 x ≡ 0 → b ≡ true
good_test true x l h = refl
good_test false x l h = absurd (omega arith)

module _ (f : List ℕ) where
  -- values are never a cut
  pub values_not_one : values_fault f ≡ 1 → ⊥
  unfolding values_fault
  values_not_one h = go (eqb (tag_of f) 1) (eqb (tag_of f) 2) (cores_fit (get_or f 3 0)) (values_fit (task_of_field f)) h
    where
      go : (a b c d : Bool) → ◌≡◌ {A = ℕ} (cond a (cond c 0 4) (cond b (cond d 0 5) 0)) 1 → ⊥
      go true b true d q = omega arith
      go true b false d q = omega arith
      go false true c true q = omega arith
      go false true c false q = omega arith
      go false false c d q = omega arith

  -- a good core count is 1 to 16
  pub cores_good : tag_of f ≡ 1 → values_fault f ≡ 0 → cores_fit (get_or f 3 0) ≡ true
  unfolding values_fault
  cores_good e h = good_test (cores_fit (get_or f 3 0)) 4 (omega arith) (rw (eq-eqb _ _ e) at h)

  -- a good task's values are in range
  pub values_good : tag_of f ≡ 2 → values_fault f ≡ 0 → values_fit (task_of_field f) ≡ true
  unfolding values_fault
  values_good e h = good_test (values_fit (task_of_field f)) 5 (omega arith) (rw (ne_eqb (tag_of f) 1 (λ q. omega arith), eq-eqb _ _ e) at h)

-- ---- a good field

-- what would be refused, or waits, is not so
not_bad : (b : Bool) (x v : ℕ) → 0 < x → cond b x v ≡ 0 → (b ≡ false) × (v ≡ 0)
not_bad true x v l h = absurd (omega arith)
not_bad false x v l h = (refl, h)

-- what is known of a good field
pub record Found (f : Field) : Type 0 where
  pub fits : tag_fits f ≡ true
  pub size : number2 f.bytes 1 ≡ length_for (tag f)
  pub whole : 3 + length_for (tag f) ≤ f.count

-- a field that is refused with nothing has passed every test
pub good_found : (f : Field) (n : ℕ) → verdict f n ≡ 0 → Found f
unfolding verdict
good_found f n h =
    let a = not_bad (ltb f.count 3) 1 _ (omega arith) h in
    let b = not_bad (not (tag_fits f)) 2 _ (omega arith) a.1 in
    let c = not_bad (eqb (tag f) 2 && leb 64 n) 6 _ (omega arith) b.1 in
    let d = not_bad (not (eqb (number2 f.bytes 1) (length_for (tag f)))) 3 _ (omega arith) c.1 in
    let e = not_bad (ltb f.count (3 + length_for (tag f))) 1 _ (omega arith) d.1 in
    record { fits = not-false _ b.0; size = eqb-true _ _ (not-false _ d.0); whole = ltb-false _ _ e.0 }

-- a core count at the start, a task before any piece, or a piece in a plan file
pub tag_cases : (f : Field) → tag_fits f ≡ true → ((tag f ≡ 1) × (f.place ≡ 0)) ⊎ (((tag f ≡ 2) × (f.place ≤ f.end)) ⊎ ((tag f ≡ 3) × (f.pieces ≡ true)))
unfolding tag_fits
tag_cases f h = go (ℕ_discrete (tag f) 1) (ℕ_discrete (tag f) 2) (ℕ_discrete (tag f) 3)
  where
    go : Dec (tag f ≡ 1) → Dec (tag f ≡ 2) → Dec (tag f ≡ 3) → ((tag f ≡ 1) × (f.place ≡ 0)) ⊎ (((tag f ≡ 2) × (f.place ≤ f.end)) ⊎ ((tag f ≡ 3) × (f.pieces ≡ true)))
    go (yes a) b c = inl (a, eqb-true _ _ (rw (eq-eqb _ _ a) at h))
    go (no a) (yes b) c = inr (inl (b, leb-true _ _ (rw (ne_eqb _ _ a, eq-eqb _ _ b) at h)))
    go (no a) (no b) (yes c) = inr (inr (c, rw (ne_eqb _ _ a, ne_eqb _ _ b, eq-eqb _ _ c) at h))
    go (no a) (no b) (no c) = clash (rw (ne_eqb _ _ a, ne_eqb _ _ b, ne_eqb _ _ c) at h) refl
