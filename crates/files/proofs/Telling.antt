-- A refusal of a file tells its number and its place, and no fault is past 6.
use mathlib.Core.Path.{◌≡◌, refl, sym, ap, ◌∙◌}
use mathlib.Core.Bool.{Bool, true, false, not, ◌&&◌, cond}
use mathlib.Core.List.{List}
use Prim.Native.Nat.{ℕ, zero, suc, ◌+◌, ◌≤◌}
use native.Mathlib.Omega.{arith}
use lib.Dec.{leb, ltb, eqb}
use lib.ListN.{length, get_or}
use Rattle.tasks.specs.Places.{place_at}
use Rattle.tasks.specs.Refusals.{place, nothing, number, tells, Refuses}
use Rattle.tasks.specs.Tables.{cores_fit, values_fit}
use Rattle.tasks.specs.Answers.{Answer, Refused}
use Rattle.tasks.specs.declared.Refusal.{Refusal}
use Rattle.tasks.specs.declared.Refusal.TheVariants.{CutShort, WrongTag, WrongLength, CoresAt, CoresGiven, ValuesAt, ValuesOf, TasksAt, TasksGiven, NotPlaced, NoPlanShape, NotWellMade, NotRun, TooSoon, StillActive, BufferShort}
use Rattle.files.specs.Grammar.{number2, length_for, refusal, Before, tag_of, task_of_field, in_place, values_fault, fault}
use Rattle.files.proofs.Exactly.{Exactly}

-- the number that is kept of a bad field is its refusal's in document 01's table
pub refusal_number : (x at : ℕ) → 1 ≤ x → x ≤ 6 → number (refusal x at) ≡ x
unfolding refusal
refusal_number zero at l h = absurd (omega arith)
refusal_number (suc zero) at l h = refl
refusal_number (suc (suc zero)) at l h = refl
refusal_number (suc (suc (suc zero))) at l h = refl
refusal_number (suc (suc (suc (suc zero)))) at l h = refl
refusal_number (suc (suc (suc (suc (suc zero))))) at l h = refl
refusal_number (suc (suc (suc (suc (suc (suc zero)))))) at l h = refl
refusal_number (suc (suc (suc (suc (suc (suc (suc x))))))) at l h = absurd (omega arith)

-- every refusal of a file tells its place
tells_place : (x k : ℕ) → tells (refusal x k) ≡ place k
unfolding refusal
tells_place x k = go (eqb x 1) (eqb x 2) (eqb x 3) (eqb x 4) (eqb x 5)
  where
    go : (a b c d e : Bool) → tells (cond a (CutShort (place_at k)) (cond b (WrongTag (place_at k)) (cond c (WrongLength (place_at k)) (cond d (CoresAt (place_at k)) (cond e (ValuesAt (place_at k)) (TasksAt (place_at k))))))) ≡ place k
    go true b c d e = refl
    go false true c d e = refl
    go false false true d e = refl
    go false false false true e = refl
    go false false false false true = refl
    go false false false false false = refl

-- equal refusals have equal places
pub same_place : (x y k j : ℕ) → refusal x k ≡ refusal y j → k ≡ j
same_place x y k j h = let t : place k ≡ place j = sym (tells_place x k) ∙ ap tells h ∙ tells_place y j in cc

-- equal refusals have equal numbers
pub same_number : (x y k j : ℕ) → 1 ≤ x → x ≤ 6 → 1 ≤ y → y ≤ 6 → refusal x k ≡ refusal y j → x ≡ y
same_number x y k j a b c d h = sym (refusal_number x k a b) ∙ ap number h ∙ refusal_number y j c d

-- what tells a place is the refusal of its number there
placed_is : (r : Refusal) (k : ℕ) → tells r ≡ place k → r ≡ refusal (number r) k
unfolding refusal
placed_is (CutShort p) k h = let e : p.0 ≡ k = cc in ap (λ (n : ℕ). CutShort (place_at n)) e
placed_is (WrongTag p) k h = let e : p.0 ≡ k = cc in ap (λ (n : ℕ). WrongTag (place_at n)) e
placed_is (WrongLength p) k h = let e : p.0 ≡ k = cc in ap (λ (n : ℕ). WrongLength (place_at n)) e
placed_is (CoresAt p) k h = let e : p.0 ≡ k = cc in ap (λ (n : ℕ). CoresAt (place_at n)) e
placed_is (CoresGiven m) k h = let z : ◌≡◌ {A = ℕ} 0 1 = cc in absurd (omega arith)
placed_is (ValuesAt p) k h = let e : p.0 ≡ k = cc in ap (λ (n : ℕ). ValuesAt (place_at n)) e
placed_is (ValuesOf i) k h = let z : ◌≡◌ {A = ℕ} 0 1 = cc in absurd (omega arith)
placed_is (TasksAt p) k h = let e : p.0 ≡ k = cc in ap (λ (n : ℕ). TasksAt (place_at n)) e
placed_is (TasksGiven n) k h = let z : ◌≡◌ {A = ℕ} 0 1 = cc in absurd (omega arith)
placed_is (NotPlaced i) k h = let z : ◌≡◌ {A = ℕ} 0 1 = cc in absurd (omega arith)
placed_is NoPlanShape k h = let z : ◌≡◌ {A = ℕ} 0 1 = cc in absurd (omega arith)
placed_is NotWellMade k h = let z : ◌≡◌ {A = ℕ} 0 1 = cc in absurd (omega arith)
placed_is (NotRun i) k h = let z : ◌≡◌ {A = ℕ} 0 1 = cc in absurd (omega arith)
placed_is (TooSoon i) k h = let z : ◌≡◌ {A = ℕ} 0 1 = cc in absurd (omega arith)
placed_is (StillActive i) k h = let z : ◌≡◌ {A = ℕ} 0 1 = cc in absurd (omega arith)
placed_is (BufferShort n) k h = let z : ◌≡◌ {A = ℕ} 0 1 = cc in absurd (omega arith)

-- an answer says no with 1 to 6 and tells a place exactly when it is the refusal of this number there
pub says_place : (a : Answer) (x k : ℕ) → 1 ≤ x → x ≤ 6 → Exactly (Refuses a x (place k)) (a ≡ Refused (refusal x k))
says_place a x k l h = record {
  only = λ n. n.answer ∙ ap Refused (placed_is n.refusal k n.telling ∙ ap (λ (y : ℕ). refusal y k) n.numbered);
  when = λ e. record { refusal = refusal x k; answer = e; numbered = refusal_number x k l h; telling = tells_place x k };
}

-- the refusal with number 8 is the plan shape's
eighth_is : (r : Refusal) → number r ≡ 8 → r ≡ NoPlanShape
eighth_is (CutShort p) h = absurd (omega arith)
eighth_is (WrongTag p) h = absurd (omega arith)
eighth_is (WrongLength p) h = absurd (omega arith)
eighth_is (CoresAt p) h = absurd (omega arith)
eighth_is (CoresGiven m) h = absurd (omega arith)
eighth_is (ValuesAt p) h = absurd (omega arith)
eighth_is (ValuesOf i) h = absurd (omega arith)
eighth_is (TasksAt p) h = absurd (omega arith)
eighth_is (TasksGiven n) h = absurd (omega arith)
eighth_is (NotPlaced i) h = absurd (omega arith)
eighth_is NoPlanShape h = refl
eighth_is NotWellMade h = absurd (omega arith)
eighth_is (NotRun i) h = absurd (omega arith)
eighth_is (TooSoon i) h = absurd (omega arith)
eighth_is (StillActive i) h = absurd (omega arith)
eighth_is (BufferShort n) h = absurd (omega arith)

-- an answer says no with 8 and tells nothing exactly when it is the plan shape's refusal
pub says_shape : (a : Answer) → Exactly (Refuses a 8 nothing) (a ≡ Refused NoPlanShape)
says_shape a = record { only = λ n. n.answer ∙ ap Refused (eighth_is n.refusal n.numbered); when = λ e. record { refusal = NoPlanShape; answer = e; numbered = refl; telling = refl } }

-- a choice of two numbers is bounded as both are
most : (c : Bool) (x y n : ℕ) → x ≤ n → y ≤ n → cond c x y ≤ n
most true x y n h k = h
most false x y n h k = k

-- no fault is past 6
pub fault_most : (o : Bool) (b : Before) (f : List ℕ) → fault o b f ≤ 6
unfolding fault values_fault
fault_most o b f =
    most (ltb (length f) 3) 1 _ 6 (omega arith)
    (most (not (in_place o b f)) 2 _ 6 (omega arith)
    (most (eqb (tag_of f) 2 && leb 64 b.tasks) 6 _ 6 (omega arith)
    (most (not (eqb (number2 f 1) (length_for (tag_of f)))) 3 _ 6 (omega arith)
    (most (ltb (length f) (3 + length_for (tag_of f))) 1 _ 6 (omega arith)
    (most (eqb (tag_of f) 1) (cond (cores_fit (get_or f 3 0)) 0 4) _ 6 (most (cores_fit (get_or f 3 0)) 0 4 6 (omega arith) (omega arith))
    (most (eqb (tag_of f) 2) (cond (values_fit (task_of_field f)) 0 5) 0 6 (most (values_fit (task_of_field f)) 0 5 6 (omega arith) (omega arith)) (omega arith)))))))
