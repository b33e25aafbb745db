-- Laws of the lists that records hold: their length, their entries, and one entry more, which is one store.
use mathlib.Core.Path.{◌≡◌, refl, sym, ap, ◌∙◌}
use mathlib.Core.List.{List}
use Prim.Native.Nat.{ℕ, zero, suc, ◌+◌, ◌≤◌, ◌<◌}
use native.Mathlib.Decide.{ℕ_discrete, dec_lt}
use native.Mathlib.Nat.{le_of_suc-le-suc}
use native.Mathlib.Omega.{arith}
use lib.ListN.{length, get_or, set, length-set, get_or-eq_default}
use lib.Seq.{ext_get_or, get_or-set_same, get_or-set_other}
use borrow.Author.Tests.{lt-ltb, le-ltb}
use Rattle.tasks.specs.Below.{tabulate, padded}

pub tabulate_length : {A : Type 0} (n : ℕ) (f : ℕ → A) → length (tabulate n f) ≡ n
unfolding tabulate
tabulate_length zero f = refl
tabulate_length (suc n) f = ap suc (tabulate_length n (λ k. f (suc k)))

pub tabulate_at : {A : Type 0} (n : ℕ) (f : ℕ → A) (i : ℕ) (d : A) → i < n → get_or (tabulate n f) i d ≡ f i
unfolding tabulate
tabulate_at zero f i d h = absurd (omega arith)
tabulate_at (suc n) f zero d h = refl
tabulate_at (suc n) f (suc i) d h = tabulate_at n (λ k. f (suc k)) i d (le_of_suc-le-suc h)

-- a list is the table of its entries
pub tabulate_is : {A : Type 0} (n : ℕ) (f : ℕ → A) (xs : List A) (d : A) → length xs ≡ n → ((i : ℕ) → i < n → get_or xs i d ≡ f i) → xs ≡ tabulate n f
tabulate_is n f xs d e h = ext_get_or d xs (tabulate n f) (e ∙ sym (tabulate_length n f)) (λ i l. h i (omega arith) ∙ sym (tabulate_at n f i d (omega arith)))

module _ {A : Type 0} (size : ℕ) (empty : A) where
  pub padded_length : (n : ℕ) (f : ℕ → A) → length (padded size n empty f) ≡ size
  unfolding padded
  padded_length n f = tabulate_length size _

  pub padded_in : (n : ℕ) (f : ℕ → A) (i : ℕ) → i < n → i < size → get_or (padded size n empty f) i empty ≡ f i
  unfolding padded
  padded_in n f i h l = tabulate_at size _ i empty l ∙ rw (lt-ltb i n h)

  pub padded_out : (n : ℕ) (f : ℕ → A) (i : ℕ) → n ≤ i → get_or (padded size n empty f) i empty ≡ empty
  unfolding padded
  padded_out n f i h = go (dec_lt i size)
    where
      go : Dec (i < size) → get_or (padded size n empty f) i empty ≡ empty
      go (yes l) = tabulate_at size _ i empty l ∙ rw (le-ltb i n h)
      go (no l) = get_or-eq_default (padded size n empty f) empty (omega (arith, padded_length n f))

  -- a list of that length with those entries is the padded list
  pub padded_is : (n : ℕ) (f : ℕ → A) (xs : List A) → length xs ≡ size → ((i : ℕ) → i < n → i < size → get_or xs i empty ≡ f i) → ((i : ℕ) → n ≤ i → i < size → get_or xs i empty ≡ empty) → xs ≡ padded size n empty f
  padded_is n f xs e h k = ext_get_or empty xs (padded size n empty f) (e ∙ sym (padded_length n f)) (λ i l. go i (omega arith) (dec_lt i n))
    where
      go : (i : ℕ) → i < size → Dec (i < n) → get_or xs i empty ≡ get_or (padded size n empty f) i empty
      go i l (yes b) = h i b l ∙ sym (padded_in n f i b l)
      go i l (no b) = k i (omega arith) l ∙ sym (padded_out n f i (omega arith))

  pub padded_none : (f : ℕ → A) (xs : List A) → length xs ≡ size → ((i : ℕ) → i < size → get_or xs i empty ≡ empty) → xs ≡ padded size 0 empty f
  padded_none f xs e h = padded_is 0 f xs e (λ i l. absurd (omega arith)) (λ i l b. h i b)

  -- one entry more is one store
  pub padded_more : (n : ℕ) (f : ℕ → A) → n < size → set (padded size n empty f) n (f n) ≡ padded size (n + 1) empty f
  padded_more n f h = padded_is (n + 1) f (set xs n (f n)) (length-set xs n (f n) ∙ padded_length n f) (λ i l b. old i l b (ℕ_discrete i n)) (λ i l b. out i l)
    where
      xs : List A
      xs = padded size n empty f

      old : (i : ℕ) → i < n + 1 → i < size → Dec (i ≡ n) → get_or (set xs n (f n)) i empty ≡ f i
      old i l b (yes e) = rw e (get_or-set_same xs n (f n) empty (omega (arith, padded_length n f)))
      old i l b (no e) = get_or-set_other xs n i (f n) empty e ∙ padded_in n f i (omega arith) b

      out : (i : ℕ) → n + 1 ≤ i → get_or (set xs n (f n)) i empty ≡ empty
      out i l = get_or-set_other xs n i (f n) empty (λ e. omega arith) ∙ padded_out n f i (omega arith)

  pub padded_turn : (n : ℕ) (f : ℕ → A) (xs : List A) (r : A) → n < size → xs ≡ padded size n empty f → r ≡ f n → set xs n r ≡ padded size (n + 1) empty f
  padded_turn n f xs r h e q = rw (e, q) (padded_more n f h)

  pub padded_same : (n : ℕ) (f g : ℕ → A) → ((i : ℕ) → i < n → f i ≡ g i) → padded size n empty f ≡ padded size n empty g
  padded_same n f g h = padded_is n g _ (padded_length n f) (λ i l b. padded_in n f i l b ∙ h i l) (λ i l b. padded_out n f i l)
