-- A refusal is settled by its number and what it tells.
use mathlib.Core.Path.{◌≡◌, refl, sym, ap, ◌∙◌}
use mathlib.Core.Bool.{cond}
use Prim.Native.Nat.{ℕ}
use lib.Dec.{eqb}
use Rattle.tasks.specs.Places.{place_at}
use Rattle.tasks.specs.Refusals.{Told, place, task, given, needed, nothing, number, tells, Refuses}
use Rattle.tasks.specs.Tables.{task_no}
use Rattle.tasks.specs.Answers.{Answer, Refused}
use Rattle.tasks.specs.declared.Refusal.{Refusal}
use Rattle.tasks.specs.declared.Refusal.TheVariants as no

-- the refusal with a number that tells this
abbrev with : ℕ → Told → Refusal
with n (place p) =
    cond (eqb n 1) (no.CutShort (place_at p))
    (cond (eqb n 2) (no.WrongTag (place_at p))
    (cond (eqb n 3) (no.WrongLength (place_at p))
    (cond (eqb n 4) (no.CoresAt (place_at p))
    (cond (eqb n 5) (no.ValuesAt (place_at p)) (no.TasksAt (place_at p))))))
with n (task i) =
    cond (eqb n 5) (no.ValuesOf (task_no i))
    (cond (eqb n 7) (no.NotPlaced (task_no i))
    (cond (eqb n 10) (no.NotRun (task_no i))
    (cond (eqb n 11) (no.TooSoon (task_no i)) (no.StillActive (task_no i)))))
with n (given m) = cond (eqb n 4) (no.CoresGiven m) (no.TasksGiven m)
with n (needed m) = no.BufferShort m
with n nothing = cond (eqb n 8) no.NoPlanShape no.NotWellMade

-- each refusal is the one with its number that tells what it does
with_own : (r : Refusal) → with (number r) (tells r) ≡ r
with_own (no.CutShort p) = refl
with_own (no.WrongTag p) = refl
with_own (no.WrongLength p) = refl
with_own (no.CoresAt p) = refl
with_own (no.CoresGiven m) = refl
with_own (no.ValuesAt p) = refl
with_own (no.ValuesOf i) = refl
with_own (no.TasksAt p) = refl
with_own (no.TasksGiven n) = refl
with_own (no.NotPlaced i) = refl
with_own no.NoPlanShape = refl
with_own no.NotWellMade = refl
with_own (no.NotRun i) = refl
with_own (no.TooSoon i) = refl
with_own (no.StillActive i) = refl
with_own (no.BufferShort n) = refl

-- an answer with the number of a refusal that tells what it tells is that refusal
pub refuses_is : {a : Answer} (r : Refusal) → Refuses a (number r) (tells r) → a ≡ Refused r
refuses_is r u =
    let e : u.refusal ≡ r = sym (with_own u.refusal) ∙ ap (λ (n : ℕ). with n (tells u.refusal)) u.numbered ∙ ap (with (number r)) u.telling ∙ with_own r in
    u.answer ∙ ap Refused e

-- and that refusal has this number and tells this
pub refuses_make : {a : Answer} (r : Refusal) → a ≡ Refused r → Refuses a (number r) (tells r)
refuses_make r e = record { refusal = r; answer = e; numbered = refl; telling = refl }
