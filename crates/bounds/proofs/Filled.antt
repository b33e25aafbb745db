-- A record's list that begins with a copy of a list's first entries is that list's padded one.
use mathlib.Core.Path.{◌≡◌, ◌∙◌}
use mathlib.Core.List.{List, ◌++◌}
use Prim.Native.Nat.{ℕ, ◌+◌, ◌-◌, ◌≤◌, ◌<◌, min}
use native.Mathlib.Omega.{arith}
use lib.ListN.{length, get_or, take, drop, replicate, length-replicate}
use Rattle.std.proofs.lemmas.List.{get_or_append_left, get_or-append_right, get_or-take, get_or-drop, length-append, length-take, length-drop}
use Rattle.tasks.proofs.Padded.{padded_is}
use Rattle.tasks.proofs.Tabulate.{replicate_at}
use Rattle.tasks.specs.Below.{padded}

-- the first k entries of xs, as far as there is room, in front of the rest of a list of one value
pub filled : {A : Type 0} (size n k : ℕ) (d : A) (xs ys zs : List A) → n ≡ min k size → k ≤ length xs → ys ≡ take n xs → zs ≡ replicate size d → ys ++ drop n zs ≡ padded size k d (λ i. get_or xs i d)
filled size n k d xs ys zs m l e z = rw (e, z) (padded_is size d k _ (take n xs ++ drop n (replicate size d)) long inside past)
  where
    front : length (take n xs) ≡ n
    front = omega (arith, length-take n xs)

    long : length (take n xs ++ drop n (replicate size d)) ≡ size
    long = omega (arith, length-append (take n xs) (drop n (replicate size d)), front, length-drop n (replicate size d), length-replicate size d)

    inside : (i : ℕ) → i < k → i < size → get_or (take n xs ++ drop n (replicate size d)) i d ≡ get_or xs i d
    inside i b c = get_or_append_left (take n xs) (drop n (replicate size d)) d i (omega (arith, front)) ∙ get_or-take n xs i d (omega arith)

    past : (i : ℕ) → k ≤ i → i < size → get_or (take n xs ++ drop n (replicate size d)) i d ≡ d
    past i b c = get_or-append_right (take n xs) (drop n (replicate size d)) n i d front (omega arith) ∙ get_or-drop n (replicate size d) (i - n) d ∙ replicate_at size (n + (i - n)) d
