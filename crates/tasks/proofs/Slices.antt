-- Reading the first entries of a list, as a loop over a part of an array does.
use Prim.Native.Nat.{ℕ, ◌<◌}
use mathlib.Core.Path.{◌≡◌}
use native.Mathlib.Omega.{arith}
use Rattle.std.specs.Prelude.{List}
use lib.ListN.{get_or, length, take}
use Rattle.std.proofs.lemmas.List.{get_or-take, length-take}

-- an index of the part is an index below its end, and what stands there is the whole list's
pub part_read : {A : Type 0} (n : ℕ) (xs : List A) (i : ℕ) (d : A) → i < length (take n xs) → (i < n) × (get_or (take n xs) i d ≡ get_or xs i d)
part_read n xs i d h = let l : i < n = omega (arith, h, length-take n xs) in (l, get_or-take n xs i d l)
