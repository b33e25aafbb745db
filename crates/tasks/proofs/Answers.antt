-- What is accepted is not refused, an answer has one refusal, and what an answer of two tests says of each.
use mathlib.Core.Path.{◌≡◌, refl}
use mathlib.Core.Bool.{Bool, true, false, cond}
use Prim.Native.Nat.{ℕ}
use native.Mathlib.Omega.{arith}
use Rattle.tasks.specs.Tables.{and_then}
use Rattle.tasks.specs.Answers.{Answer, Accepted, Refused}
use Rattle.tasks.specs.declared.Refusal.{Refusal}

-- what is refused is not accepted
pub accepted_not : {A : Type 0} {r : Refusal} → Refused r ≡ Accepted → A
accepted_not e = let z : ◌≡◌ {A = ℕ} 0 1 = cc in absurd (omega arith)

-- two refusals that are one answer are the same
pub refused_is : {r s : Refusal} → Refused r ≡ Refused s → r ≡ s
refused_is e = cc

-- accepted is neither refused first nor then
pub both_accepted : (a b : Answer) → and_then a b ≡ Accepted → (a ≡ Accepted) × (b ≡ Accepted)
both_accepted Accepted b h = (refl, h)
both_accepted (Refused r) b h = accepted_not h

-- a test that is accepted passes
pub met : (b : Bool) (r : Refusal) → cond b Accepted (Refused r) ≡ Accepted → b ≡ true
met true r h = refl
met false r h = accepted_not h
