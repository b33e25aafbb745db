-- Lists that a walk fills, counts, and the first piece of each task.
use mathlib.Core.Path.{◌≡◌, refl, sym, ap, ◌∙◌}
use mathlib.Core.Bool.{Bool, true, false, ◌&&◌, cond}
use mathlib.Core.List.{List}
use Prim.Native.Nat.{ℕ, suc, ◌+◌, ◌≤◌, ◌<◌}
use native.Mathlib.Decide.{ℕ_discrete, dec_lt}
use native.Mathlib.Omega.{arith}
use lib.Dec.{leb, eqb}
use lib.ListN.{get_or, set}
use mir.Syntax.{w32}
use mir.Val.{Fits, bool_byte}
use borrow.Author.Tests.{le-leb, lt-leb, eq-eqb, ne_eqb}
use Rattle.tasks.specs.Below.{first, count, tabulate, padded}
use Rattle.tasks.proofs.Below.{count_more, any_none, first_none, first_is, first_same}
use Rattle.tasks.proofs.Bools.{not_second}
use Rattle.tasks.proofs.Padded.{padded_in}
use Rattle.tasks.proofs.Tabulate.{tabulate_turn}

pub padded_has : {A : Type 0} (size : ℕ) (empty : A) (n : ℕ) (f : ℕ → A) (xs : List A) (i : ℕ) → xs ≡ padded size n empty f → i < n → i < size → get_or xs i empty ≡ f i
padded_has size empty n f xs i e l b = rw e (padded_in size empty n f i l b)

-- one more that is counted or not
bit : (t : Bool) → bool_byte t ≡ cond t 1 0
bit true = refl
bit false = refl

pub count_turn : (f : ℕ → Bool) (i a : ℕ) (t : Bool) → a ≡ count i f → t ≡ f i → a + bool_byte t ≡ count (i + 1) f
count_turn f i a t e h = rw (bit t, e, h) (sym (count_more i f))

-- and one that is not
pub count_stay : (f : ℕ → Bool) (i a : ℕ) → a ≡ count i f → false ≡ f i → a ≡ count (i + 1) f
count_stay f i a e h = omega (arith, e, count_more i f, ap (λ (b : Bool). cond {A = ℕ} b 1 0) h)

pub count_least : (i a : ℕ) (t : Bool) → a ≤ i → a + bool_byte t ≤ i + 1
count_least i a true l = omega arith
count_least i a false l = omega arith

pub count_fits : (i a : ℕ) (t : Bool) → a ≤ i → i < 64 → Fits w32 (a + bool_byte t)
count_fits i a t l b = omega (arith, count_least i a t l)

module _ (m : ℕ → ℕ) (n : ℕ) where
  -- the first of the places from j on that holds i, or n
  abbrev pub first_from : ℕ → ℕ → ℕ
  first_from j i = first n (λ k. leb j k && eqb (m k) i)

  pub firsts_start : (i : ℕ) → n ≡ first_from n i
  firsts_start i = sym (first_none n _ (any_none n _ (λ k l. rw (lt-leb n k l))))

  -- one place earlier is one store
  pub firsts_more : (xs : List ℕ) (i j t : ℕ) → i ≡ suc j → xs ≡ tabulate 256 (first_from i) → j < n → t ≡ m j → t < 256 → set xs t j ≡ tabulate 256 (first_from j)
  firsts_more xs i j t w e l q b =
      tabulate_turn 256 (first_from (suc j)) (first_from j) xs t j (e ∙ ap (λ (k : ℕ). tabulate 256 (first_from k)) w) b
      (sym (first_is n _ j l (rw (le-leb j j (omega arith), eq-eqb (m j) t (sym q))) (λ k h. rw (lt-leb j k h))))
      (λ i d. first_same n (λ k. leb (suc j) k && eqb (m k) i) (λ k. leb j k && eqb (m k) i) (λ k h. off k i d (ℕ_discrete k j)))
    where
      off : (k i : ℕ) → (i ≡ t → ⊥) → Dec (k ≡ j) → leb (suc j) k && eqb (m k) i ≡ leb j k && eqb (m k) i
      off k i d (yes w) = rw (w, ne_eqb (m j) i (λ z. d (sym z ∙ sym q))) (not_second (leb (suc j) j) {b = false} refl ∙ sym (not_second (leb j j) {b = false} refl))
      off k i d (no w) = go (dec_lt j k)
        where
          go : Dec (j < k) → leb (suc j) k && eqb (m k) i ≡ leb j k && eqb (m k) i
          go (yes h) = rw (le-leb (suc j) k h, le-leb j k (omega arith))
          go (no h) = rw (lt-leb (suc j) k (omega arith), lt-leb j k (omega arith))

  pub firsts_all : (i : ℕ) → first_from 0 i ≡ first n (λ k. eqb (m k) i)
  firsts_all i = first_same n _ (λ k. eqb (m k) i) (λ k l. rw (le-leb 0 k (omega arith)))
