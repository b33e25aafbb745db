-- Totals stop at 4,294,967,295, and up to there they add up.
use mathlib.Core.Path.{◌≡◌}
use Prim.Native.Nat.{ℕ, ◌+◌, ◌≤◌, ◌<◌}
use native.Mathlib.Omega.{arith}
use Rattle.dispatch.specs.Rules.{total}

pub total_adds : (a k : ℕ) → a + k ≤ 4294967295 → total a k ≡ a + k
total_adds a k h = omega arith

pub total_stops : (a k : ℕ) → 4294967295 < a + k → total a k ≡ 4294967295
total_stops a k h = omega arith

-- the last rise, and one past it
pub last_rise : total 4294967294 1 ≡ 4294967295
last_rise = total_adds 4294967294 1 (omega arith)

pub no_rise : total 4294967295 1 ≡ 4294967295
no_rise = total_stops 4294967295 1 (omega arith)
