-- Numbers of four bytes, high byte first: written and read back.
use mathlib.Core.Path.{◌≡◌}
use mathlib.Core.List.{[], ◌∷◌}
use Prim.Native.Nat.{ℕ, ◌+◌, ◌*◌, ◌/◌, ◌%◌, ◌<◌}
use native.Mathlib.Omega.{arith}
use Rattle.writing.specs.Fields.{bytes4}

pub number_back : (x : ℕ) → x < 4294967296 → (x / 16777216 % 256 * 256 + x / 65536 % 256) * 65536 + (x / 256 % 256 * 256 + x % 256) ≡ x
number_back x h =
    let y : x / 65536 ≡ x / 256 / 256 = omega arith in
    let z : x / 16777216 ≡ x / 65536 / 256 = omega arith in
    let u : x / 16777216 % 256 ≡ x / 16777216 = omega arith in
    let a : x ≡ x / 256 * 256 + x % 256 = omega arith in
    let b : x / 256 ≡ x / 65536 * 256 + x / 256 % 256 = omega arith in
    let c : x / 65536 ≡ x / 16777216 * 256 + x / 65536 % 256 = omega arith in
    omega arith

pub bytes_back : (a b c d : ℕ) → a < 256 → b < 256 → c < 256 → d < 256 → bytes4 ((a * 256 + b) * 65536 + (c * 256 + d)) ≡ a ∷ b ∷ c ∷ d ∷ []
bytes_back a b c d ha hb hc hd =
    let x : ℕ = (a * 256 + b) * 65536 + (c * 256 + d) in
    let e : x / 16777216 % 256 ≡ a = omega arith in
    let f : x / 65536 % 256 ≡ b = omega arith in
    let g : x / 256 % 256 ≡ c = omega arith in
    let k : x % 256 ≡ d = omega arith in
    rw (e, f, g, k)
