-- A table over the tasks that a walk over a set's members fills.
use mathlib.Core.Path.{◌≡◌, refl, sym, ap, ◌∙◌}
use mathlib.Core.Bool.{Bool, true, false, ◌||◌}
use mathlib.Core.List.{List}
use Prim.Native.Nat.{ℕ, ◌+◌, ◌<◌}
use lib.Dec.{eqb}
use lib.ListN.{get_or, set}
use borrow.Author.Tests.{eq-eqb, ne_eqb}
use Rattle.tasks.specs.Below.{any, tabulate}
use Rattle.tasks.proofs.Below.{any_more}
use Rattle.tasks.proofs.Padded.{tabulate_at}
use Rattle.tasks.proofs.Tabulate.{tabulate_same, tabulate_turn}

pub or_none : (a : Bool) {b : Bool} → b ≡ false → a ≡ a || b
or_none true h = refl
or_none false h = sym h

pub or_one : (a : Bool) {b : Bool} → b ≡ true → true ≡ a || b
or_one true h = refl
or_one false h = sym h

-- what a table has at i
pub tabulated : {A : Type 0} (n : ℕ) (f : ℕ → A) (xs : List A) (i : ℕ) (d : A) → xs ≡ tabulate n f → i < n → f i ≡ get_or xs i d
tabulated n f xs i d e l = rw e (sym (tabulate_at n f i d l))

-- one member more, which is t, is one mark more
pub marks_turn : (n : ℕ) (w : ℕ → ℕ → Bool) (xs : List Bool) (k t : ℕ) → xs ≡ tabulate n (λ i. any k (λ j. w j i)) → ((i : ℕ) → w k i ≡ eqb t i) → t < n → set xs t true ≡ tabulate n (λ i. any (k + 1) (λ j. w j i))
marks_turn n w xs k t e q l =
    tabulate_turn n _ (λ i. any (k + 1) (λ j. w j i)) xs t true e l
    (or_one (any k (λ j. w j t)) (q t ∙ eq-eqb t t refl) ∙ sym (any_more k (λ j. w j t)))
    (λ i d. or_none (any k (λ j. w j i)) (q i ∙ ne_eqb t i (λ b. d (sym b))) ∙ sym (any_more k (λ j. w j i)))

-- one that is no member changes no mark
pub marks_stay : (n : ℕ) (w : ℕ → ℕ → Bool) (xs : List Bool) (k : ℕ) → xs ≡ tabulate n (λ i. any k (λ j. w j i)) → ((i : ℕ) → w k i ≡ false) → xs ≡ tabulate n (λ i. any (k + 1) (λ j. w j i))
marks_stay n w xs k e q = e ∙ tabulate_same n _ _ false (λ i l. or_none (any k (λ j. w j i)) (q i) ∙ sym (any_more k (λ j. w j i)))

pub marks_more : (n : ℕ) (m : ℕ → ℕ) (xs : List Bool) (k t : ℕ) → xs ≡ tabulate n (λ i. any k (λ j. eqb (m j) i)) → t ≡ m k → t < n → set xs t true ≡ tabulate n (λ i. any (k + 1) (λ j. eqb (m j) i))
marks_more n m xs k t e q l = marks_turn n (λ j i. eqb (m j) i) xs k t e (λ i. ap (λ (z : ℕ). eqb z i) (sym q)) l
