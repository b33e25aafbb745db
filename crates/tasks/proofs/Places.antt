-- A place that a number tells is as many bytes further on.
use mathlib.Core.Path.{◌≡◌}
use Prim.Native.Nat.{ℕ, ◌+◌, ◌-◌, ◌≤◌}
use native.Mathlib.Omega.{arith}
use borrow.Author.Tests.{le-leb}
use Rattle.tasks.specs.Places.{further}

pub further_is : (p n : ℕ) → p + n ≤ 18446744073709551615 → further p n ≡ p + n
unfolding further
further_is p n h = rw (le-leb p (18446744073709551615 - n) (omega arith))
