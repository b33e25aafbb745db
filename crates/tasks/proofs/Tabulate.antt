-- Laws of an array that starts with one value everywhere and is then stored to, one place after another.
use mathlib.Core.Path.{◌≡◌, refl, ap, ◌∙◌}
use mathlib.Core.List.{List}
use Prim.Native.Nat.{ℕ, zero, suc, ◌<◌}
use native.Mathlib.Decide.{ℕ_discrete}
use native.Mathlib.Omega.{arith}
use lib.ListN.{length, get_or, set, replicate, length-set, length-replicate, get_or-replicate}
use lib.Seq.{get_or-set_same, get_or-set_other}
use Rattle.tasks.proofs.Padded.{tabulate_length, tabulate_at, tabulate_is, padded_none}
use Rattle.tasks.specs.Below.{tabulate, padded}

module _ {A : Type 0} where
  -- tables of the same entries are the same
  pub tabulate_same : (n : ℕ) (f g : ℕ → A) (d : A) → ((i : ℕ) → i < n → f i ≡ g i) → tabulate n f ≡ tabulate n g
  tabulate_same n f g d h = tabulate_is n g (tabulate n f) d (tabulate_length n f) (λ i l. tabulate_at n f i d l ∙ h i l)

  -- one value everywhere
  pub tabulate_start : (n : ℕ) (v : A) (f : ℕ → A) → ((i : ℕ) → i < n → v ≡ f i) → replicate n v ≡ tabulate n f
  tabulate_start n v f h = tabulate_is n f (replicate n v) v (length-replicate n v) (λ i l. get_or-replicate n i v v l ∙ h i l)

  -- a store at t makes of the table of f that of g, which differs from f at t alone
  pub tabulate_turn : (n : ℕ) (f g : ℕ → A) (xs : List A) (t : ℕ) (v : A) → xs ≡ tabulate n f → t < n → v ≡ g t → ((i : ℕ) → (i ≡ t → ⊥) → f i ≡ g i) → set xs t v ≡ tabulate n g
  tabulate_turn n f g xs t v e h q k = tabulate_is n g (set xs t v) v long (λ i l. go i l (ℕ_discrete i t))
    where
      wide : length xs ≡ n
      wide = ap length e ∙ tabulate_length n f

      long : length (set xs t v) ≡ n
      long = length-set xs t v ∙ wide

      go : (i : ℕ) → i < n → Dec (i ≡ t) → get_or (set xs t v) i v ≡ g i
      go i l (yes j) = rw j (get_or-set_same xs t v v (omega (arith, wide)) ∙ q)
      go i l (no j) = get_or-set_other xs t i v v j ∙ rw e (tabulate_at n f i v l ∙ k i j)

  -- a record's list before its first entry
  pub padded_start : (size : ℕ) (empty : A) (f : ℕ → A) → replicate size empty ≡ padded size 0 empty f
  padded_start size empty f = padded_none size empty f (replicate size empty) (length-replicate size empty) (λ i l. get_or-replicate size i empty empty l)

  -- a list of one value reads as it everywhere
  pub replicate_at : (n i : ℕ) (v : A) → get_or (replicate n v) i v ≡ v
  replicate_at zero i v = refl
  replicate_at (suc n) zero v = refl
  replicate_at (suc n) (suc i) v = replicate_at n i v
