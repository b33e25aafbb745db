-- A margin is D minus the bound, as a signed number.
use mathlib.Core.Path.{◌≡◌}
use Prim.Native.Nat.{ℕ, zero, suc, ◌+◌, ◌-◌, ◌≤◌}
use native.Mathlib.Decide.{dec_le}
use native.Mathlib.Omega.{arith}
use lib.IntN.{pos, ◌-ℤ◌}
use borrow.Author.Tests.{le-leb, lt-leb, lt-ltb, le-ltb}
use Rattle.plans.specs.Margins.{margin, signed}

pub margin_signed : (D b : ℕ) → signed (margin D b) ≡ pos D -ℤ pos b
unfolding margin
margin_signed D zero = let e : D - 0 ≡ D + 0 = omega arith in rw (le-leb 0 D (omega arith), e)
margin_signed D (suc k) = go (dec_le (suc k) D)
  where
    go : Dec (suc k ≤ D) → signed (margin D (suc k)) ≡ pos D -ℤ pos (suc k)
    go (yes h) = rw (le-leb (suc k) D h, le-ltb D (suc k) h)
    go (no h) = let e : suc k - D ≡ suc (k - D) = omega arith in let f : suc k - suc D ≡ k - D = omega arith in rw (lt-leb (suc k) D (omega arith), lt-ltb D (suc k) (omega arith), e, f)
