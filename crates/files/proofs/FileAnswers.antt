-- The answers to a file, by the answer to its fields.
use mathlib.Core.Path.{◌≡◌, refl, sym, ap, ◌∙◌}
use mathlib.Core.Bool.{Bool, true, false, cond}
use mathlib.Core.List.{List}
use mathlib.Core.Logic.{◌⊎◌, inl, inr}
use Prim.Native.Nat.{ℕ, ◌<◌}
use native.Mathlib.Omega.{arith}
use lib.Dec.{eqb}
use Rattle.std.specs.Prelude.{Ok}
use lib.ListN.{length}
use borrow.Author.Tests.{eqb-true}
use Rattle.std.proofs.lemmas.List.{nil_from_length}
use Rattle.tasks.proofs.Answers.{accepted_not, refused_is}
use Rattle.tasks.specs.Places.{place_at}
use Rattle.tasks.specs.Refusals.{number, tells, place}
use Rattle.tasks.specs.Tables.{and_then}
use Rattle.tasks.specs.Answers.{Answer, Accepted, Refused}
use Rattle.tasks.specs.declared.Refusal.{Refusal}
use Rattle.tasks.specs.declared.Refusal.TheVariants.{TasksAt, NoPlanShape}
use Rattle.files.specs.declared.Default.{Default}
use Rattle.files.specs.Files.{table_read, plan_read, answer_to}
use Rattle.files.specs.Grammar.{answered, answer_of, table_of, fields_of, start, judged, tasks_in, tasks_end, record_in, some_task, fields_good, shape_fits, shape_good, table_said, plan_said}
use Rattle.files.specs.Rules.{NoTask}
use Rattle.files.proofs.Exactly.{Exactly}
use Rattle.files.proofs.AsSaid.{Fits, table_as_said, plan_as_said}

-- a file's answer is the one it was answered with
pub answer_is : {A : Type 0} (a : Answer) (x : A) → answer_of (answered a x) ≡ a
answer_is Accepted x = refl
answer_is (Refused r) x = refl

-- what a file gives was accepted, and is what was held for it
pub given : {A : Type 0} (a : Answer) (x y : A) → answered a x ≡ Ok y → (a ≡ Accepted) × (x ≡ y)
given Accepted x y h = (refl, cc)
given (Refused r) x y h = let z : ◌≡◌ {A = ℕ} 0 1 = cc in absurd (omega arith)

-- a table file's answer is its fields'
pub table_answer : (d : Default) (s : List ℕ) → Fits s → answer_of (table_read d s) ≡ fields_good false (fields_of s)
unfolding table_said
table_answer d s lent = ap answer_of (table_as_said d s lent) ∙ answer_is (fields_good false (fields_of s)) (table_of (record_in d (fields_of s)))

-- a plan file's answer is its fields', then the shape's
pub plan_answer : (d : Default) (s : List ℕ) → Fits s → answer_of (plan_read d s) ≡ and_then (fields_good true (fields_of s)) (shape_good (fields_of s) (record_in d (fields_of s)))
unfolding plan_said
plan_answer d s lent = ap answer_of (plan_as_said d s lent) ∙ answer_is (and_then (fields_good true (fields_of s)) (shape_good (fields_of s) (record_in d (fields_of s)))) (record_in d (fields_of s))

-- the shape is refused with 8 only
shape_eight : (c : Bool) (x : Refusal) → number x < 7 → cond c Accepted (Refused NoPlanShape) ≡ Refused x → ⊥
shape_eight true x l h = accepted_not (sym h)
shape_eight false x l h = let e : 8 ≡ number x = ap number (refused_is {r = NoPlanShape} {s = x} h) in omega arith

-- a refusal that the second test does not give is the first's
then_refused : (a b : Answer) (x : Refusal) → (b ≡ Refused x → ⊥) → and_then a b ≡ Refused x → a ≡ Refused x
then_refused Accepted b x n h = absurd (n h)
then_refused (Refused y) b x n h = h

-- a file gets a refusal below 7 exactly when its fields get it
pub by_fields : (d : Default) (o : Bool) (s : List ℕ) → Fits s → (x : Refusal) → number x < 7 → Exactly (answer_to d o s ≡ Refused x) (fields_good o (fields_of s) ≡ Refused x)
by_fields d false s lent x l = record { only = λ h. sym (table_answer d s lent) ∙ h; when = λ h. table_answer d s lent ∙ h }
by_fields d true s lent x l = record {
  only = λ h. then_refused (fields_good true (fields_of s)) (shape_good (fields_of s) (record_in d (fields_of s))) x (λ q. shape_eight (shape_fits (fields_of s) (record_in d (fields_of s))) x l q) (sym (plan_answer d s lent) ∙ h);
  when = λ h. plan_answer d s lent ∙ ap (λ (a : Answer). and_then a (shape_good (fields_of s) (record_in d (fields_of s)))) h;
}

-- no task is refused with 6 only
task_six : (c : Bool) (j : ℕ) (x : Refusal) → number x < 6 → cond c (Refused (TasksAt (place_at j))) Accepted ≡ Refused x → ⊥
task_six true j x l h = let e : 6 ≡ number x = ap number (refused_is {r = TasksAt (place_at j)} {s = x} h) in omega arith
task_six false j x l h = accepted_not (sym h)

-- below 6 it is the first bad field that decides
pub by_first : (o : Bool) (fs : List (List ℕ)) (x : Refusal) → number x < 6 → Exactly (fields_good o fs ≡ Refused x) (judged o start 0 fs ≡ Refused x)
by_first o fs x l = record {
  only = λ h. then_refused (judged o start 0 fs) (some_task fs) x (λ q. task_six (eqb (length (tasks_in fs)) 0) (tasks_end 0 fs) x l q) h;
  when = λ h. ap (λ (a : Answer). and_then a (some_task fs)) h;
}

-- 6 is of a 65th task or of none
pub by_six : (o : Bool) (fs : List (List ℕ)) (k : ℕ) → Exactly (fields_good o fs ≡ Refused (TasksAt (place_at k))) ((judged o start 0 fs ≡ Refused (TasksAt (place_at k))) ⊎ NoTask o fs k)
by_six o fs k = record { only = λ h. only _ refl h; when = when }
  where
    none : judged o start 0 fs ≡ Accepted → (c : Bool) → eqb (length (tasks_in fs)) 0 ≡ c → cond c (Refused (TasksAt (place_at (tasks_end 0 fs)))) Accepted ≡ Refused (TasksAt (place_at k)) → NoTask o fs k
    none g true e h =
        let t : place (tasks_end 0 fs) ≡ place k = ap tells (refused_is {r = TasksAt (place_at (tasks_end 0 fs))} {s = TasksAt (place_at k)} h) in
        let p : tasks_end 0 fs ≡ k = cc in
        record { good = g; none = nil_from_length (tasks_in fs) (eqb-true (length (tasks_in fs)) 0 e); place = p }
    none g false e h = accepted_not (sym h)

    only : (a : Answer) → judged o start 0 fs ≡ a → and_then (judged o start 0 fs) (some_task fs) ≡ Refused (TasksAt (place_at k)) → (judged o start 0 fs ≡ Refused (TasksAt (place_at k))) ⊎ NoTask o fs k
    only Accepted e h = inr (none e _ refl (rw e at h))
    only (Refused y) e h = inl (e ∙ (rw e at h))

    when : (judged o start 0 fs ≡ Refused (TasksAt (place_at k))) ⊎ NoTask o fs k → fields_good o fs ≡ Refused (TasksAt (place_at k))
    when (inl h) = ap (λ (a : Answer). and_then a (some_task fs)) h
    when (inr n) = rw (n.good, n.none, n.place)
