-- Fields are refused exactly where the first bad one is.
use mathlib.Core.Path.{◌≡◌, refl, sym, ap, ◌∙◌}
use mathlib.Core.Bool.{Bool}
use mathlib.Core.List.{List, [], ◌∷◌, ◌++◌}
use Prim.Native.Nat.{ℕ, zero, suc, ◌+◌, ◌≤◌}
use native.Mathlib.Decide.{ℕ_discrete}
use native.Mathlib.Omega.{arith}
use lib.ListN.{length, length-append}
use borrow.Author.Tests.{eq-eqb, ne_eqb}
use Rattle.tasks.proofs.Answers.{accepted_not, refused_is}
use Rattle.tasks.specs.Answers.{Accepted, Refused}
use Rattle.files.specs.Grammar.{refusal, Before, start, behind, fault, judged}
use Rattle.files.specs.Rules.{behind_all, joined, FirstBad}
use Rattle.files.proofs.Exactly.{Exactly}
use Rattle.files.proofs.Telling.{same_place, same_number, fault_most}

-- the first bad field of fs, which begin at j behind b, has this fault and stands at k
record From (o : Bool) (b : Before) (j : ℕ) (fs : List (List ℕ)) (x k : ℕ) : Type 0 where
  pub earlier : List (List ℕ)
  pub field : List ℕ
  pub later : List (List ℕ)
  pub row : fs ≡ earlier ++ (field ∷ later)
  pub good : judged o b j earlier ≡ Accepted
  pub place : j + length (joined earlier) ≡ k
  pub faulty : fault o (behind_all b earlier) field ≡ x

-- a number that is not 0 is at least 1
pub positive : (n : ℕ) → (n ≡ 0 → ⊥) → 1 ≤ n
positive zero h = absurd (h refl)
positive (suc n) h = omega arith

-- behind a good field the others are judged
pub judged_good : (o : Bool) (b : Before) (j : ℕ) (f : List ℕ) (fs : List (List ℕ)) → fault o b f ≡ 0 → judged o b j (f ∷ fs) ≡ judged o (behind b f) (j + length f) fs
unfolding judged
judged_good o b j f fs z = rw (eq-eqb (fault o b f) 0 z)

-- a bad field decides
pub judged_bad : (o : Bool) (b : Before) (j : ℕ) (f : List ℕ) (fs : List (List ℕ)) → (fault o b f ≡ 0 → ⊥) → judged o b j (f ∷ fs) ≡ Refused (refusal (fault o b f) j)
unfolding judged
judged_bad o b j f fs z = rw (ne_eqb (fault o b f) 0 z)

-- of accepted fields the first is good
pub first_good : (o : Bool) (f : List ℕ) (fs : List (List ℕ)) (b : Before) (j : ℕ) → judged o b j (f ∷ fs) ≡ Accepted → fault o b f ≡ 0
first_good o f fs b j h = go (ℕ_discrete (fault o b f) 0)
  where
    go : Dec (fault o b f ≡ 0) → fault o b f ≡ 0
    go (yes z) = z
    go (no z) = accepted_not (sym (judged_bad o b j f fs z) ∙ h)

module _ (o : Bool) (x k : ℕ) (some : 1 ≤ x) (most : x ≤ 6) where
  -- what is refused has a first bad field
  found : (fs : List (List ℕ)) (b : Before) (j : ℕ) → judged o b j fs ≡ Refused (refusal x k) → From o b j fs x k
  unfolding judged behind_all joined
  found [] b j h = accepted_not (sym h)
  found (f ∷ fs) b j h = go (ℕ_discrete (fault o b f) 0) (found fs (behind b f) (j + length f))
    where
      go : Dec (fault o b f ≡ 0) → (judged o (behind b f) (j + length f) fs ≡ Refused (refusal x k) → From o (behind b f) (j + length f) fs x k) → From o b j (f ∷ fs) x k
      go (yes z) ih =
          let t : From o (behind b f) (j + length f) fs x k = ih (sym (judged_good o b j f fs z) ∙ h) in
          record { earlier = f ∷ t.earlier; field = t.field; later = t.later; row = ap (λ (l : List (List ℕ)). f ∷ l) t.row; good = judged_good o b j f t.earlier z ∙ t.good; place = omega (arith, t.place, length-append f (joined t.earlier)); faulty = t.faulty }
      go (no z) ih =
          let e : refusal (fault o b f) j ≡ refusal x k = refused_is (sym (judged_bad o b j f fs z) ∙ h) in
          record { earlier = []; field = f; later = fs; row = refl; good = refl; place = omega (arith, same_place (fault o b f) x j k e); faulty = same_number (fault o b f) x j k (positive (fault o b f) z) (fault_most o b f) some most e }

  -- and a first bad field is refused
  decides : (es : List (List ℕ)) (f : List ℕ) (fs : List (List ℕ)) (b : Before) (j : ℕ) → judged o b j es ≡ Accepted → j + length (joined es) ≡ k → fault o (behind_all b es) f ≡ x → judged o b j (es ++ (f ∷ fs)) ≡ Refused (refusal x k)
  unfolding behind_all joined
  decides [] f fs b j g p h = let q : j ≡ k = omega arith in judged_bad o b j f fs (λ z. omega arith) ∙ rw (h, q)
  decides (g ∷ es) f fs b j a p h = go (ℕ_discrete (fault o b g) 0) (decides es f fs (behind b g) (j + length g))
    where
      go : Dec (fault o b g ≡ 0) → (judged o (behind b g) (j + length g) es ≡ Accepted → j + length g + length (joined es) ≡ k → fault o (behind_all (behind b g) es) f ≡ x → judged o (behind b g) (j + length g) (es ++ (f ∷ fs)) ≡ Refused (refusal x k)) → judged o b j (g ∷ (es ++ (f ∷ fs))) ≡ Refused (refusal x k)
      go (yes z) ih = judged_good o b j g (es ++ (f ∷ fs)) z ∙ ih (sym (judged_good o b j g es z) ∙ a) (omega (arith, length-append g (joined es))) h
      go (no z) ih = accepted_not (sym (judged_bad o b j g es z) ∙ a)

  -- the fields are refused exactly where their first bad one breaks the rule of this number
  pub first_bad : (fs : List (List ℕ)) (Rule : Bool → Before → List ℕ → Type 0) → ((b : Before) (f : List ℕ) → Exactly (fault o b f ≡ x) (Rule o b f)) → Exactly (judged o start 0 fs ≡ Refused (refusal x k)) (FirstBad o fs Rule k)
  first_bad fs Rule r = record {
    only = λ h. let t : From o start 0 fs x k = found fs start 0 h in record { earlier = t.earlier; field = t.field; later = t.later; row = t.row; good = t.good; place = omega (arith, t.place); breaks = (r (behind_all start t.earlier) t.field).only t.faulty };
    when = λ t. rw t.row (decides t.earlier t.field t.later start 0 t.good (omega (arith, t.place)) ((r (behind_all start t.earlier) t.field).when t.breaks));
  }
