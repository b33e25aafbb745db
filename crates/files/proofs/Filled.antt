-- A list filled_to up to a size: what it holds, and one entry more.
use mathlib.Core.Path.{◌≡◌, refl, sym, ap, ◌∙◌}
use mathlib.Core.List.{List, [], ◌∷◌, ◌++◌, append_assoc}
use Prim.Native.Nat.{ℕ, zero, suc, ◌-◌, ◌≤◌, ◌<◌}
use native.Mathlib.Omega.{arith}
use lib.ListN.{length, get_or, set, replicate, length-append, length-replicate}
use lib.Seq.{set-append_seam}
use Rattle.tasks.proofs.Tabulate.{replicate_at}
use Rattle.files.specs.Grammar.{filled_to}

-- past a list stands what it is filled_to with
behind_get : {A : Type 0} (d : A) (xs : List A) (n i : ℕ) → get_or (xs ++ replicate n d) i d ≡ get_or xs i d
behind_get d [] n i = replicate_at n i d
behind_get d (x ∷ xs) n zero = refl
behind_get d (x ∷ xs) n (suc i) = behind_get d xs n i

-- a filled_to list reads as the list does
pub filled_get : {A : Type 0} (n : ℕ) (d : A) (xs : List A) (i : ℕ) → get_or (filled_to n d xs) i d ≡ get_or xs i d
unfolding filled_to
filled_get n d xs i = behind_get d xs (n - length xs) i

-- and it has its size
pub filled_length : {A : Type 0} (n : ℕ) (d : A) (xs : List A) → length xs ≤ n → length (filled_to n d xs) ≡ n
unfolding filled_to
filled_length n d xs h = length-append xs (replicate (n - length xs) d) ∙ omega (arith, length-replicate (n - length xs) d)

-- one entry more
pub filled_set : {A : Type 0} (n : ℕ) (d : A) (xs : List A) (x : A) → length xs < n → set (filled_to n d xs) (length xs) x ≡ filled_to n d (xs ++ (x ∷ []))
unfolding filled_to
filled_set {A} n d xs x h =
    let e : n - length xs ≡ suc (n - length (xs ++ (x ∷ []))) = omega (arith, length-append xs (x ∷ [])) in
    ap (λ (k : ℕ). set (xs ++ replicate k d) (length xs) x) e ∙ set-append_seam xs d (replicate (n - length (xs ++ (x ∷ []))) d) x ∙ sym (append_assoc xs (x ∷ []) (replicate (n - length (xs ++ (x ∷ []))) d))
