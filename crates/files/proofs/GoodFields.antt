-- Good fields name a good table: a core count of 1 to 16, at most 64 tasks, and each task's values in range.
use mathlib.Core.Path.{◌≡◌, refl, sym, ◌∙◌}
use mathlib.Core.Bool.{Bool, true, false}
use mathlib.Core.List.{List, [], ◌∷◌}
use Prim.Native.Nat.{ℕ, zero, suc, ◌+◌, ◌≤◌, ◌<◌}
use native.Mathlib.Decide.{ℕ_discrete}
use native.Mathlib.Omega.{arith}
use lib.ListN.{length, get_or}
use borrow.Author.Tests.{eq-eqb, ne_eqb, le-leb}
use Rattle.tasks.proofs.Bools.{clash, both_make}
use Rattle.tasks.proofs.Tables.{all_good}
use Rattle.tasks.specs.Tables.{no_task, cores_fit, values_fit, checked_tasks}
use Rattle.tasks.specs.Answers.{Accepted}
use Rattle.tasks.specs.declared.Task.{Task}
use Rattle.plans.specs.Pieces.{task_of}
use Rattle.files.specs.Grammar.{Before, tag_of, default_cores, task_of_field, start, behind, in_place, values_fault, fault, judged, tasks_in, pieces_in, kinds_fit, cores_in, record_in}
use Rattle.files.specs.Rules.{BodyGood}
use Rattle.files.specs.declared.Default.{Default}
use Rattle.files.specs.declared.Default.TheVariants.{Four, Eight}
use Rattle.files.proofs.Filled.{filled_get}
use Rattle.files.proofs.Found.{cores_good, values_good}
use Rattle.files.proofs.Named.{tasks_more, tasks_other, pieces_other, kinds_other}
use Rattle.files.proofs.Faults.{Breaks, fault_told, body_fault}
use Rattle.files.proofs.FirstBad.{judged_good, first_good}

-- a good field is whole
pub whole_field : (o : Bool) (b : Before) (f : List ℕ) → fault o b f ≡ 0 → BodyGood o b f
unfolding Breaks
whole_field o b f z = told z
  where
    told : fault o b f ≡ 0 → Breaks 0 o b f
    told q = rw q at (fault_told o b f)

-- and its values are good
values_of : (o : Bool) (b : Before) (f : List ℕ) → fault o b f ≡ 0 → values_fault f ≡ 0
values_of o b f z = sym (body_fault o b f (whole_field o b f z)) ∙ z

-- these tasks have room behind n others, and the values of each are in range
record TasksGood (n : ℕ) (ts : List Task) : Type 0 where
  pub room : n + length ts ≤ 64
  pub values : (i : ℕ) → i < length ts → values_fit (get_or ts i no_task) ≡ true

-- the tasks of good fields are good
tasks_good : (o : Bool) (fs : List (List ℕ)) (b : Before) (j : ℕ) → b.tasks ≤ 64 → judged o b j fs ≡ Accepted → TasksGood b.tasks (tasks_in fs)
unfolding tasks_in
tasks_good o [] b j l h = record { room = omega arith; values = λ i k. absurd (omega arith) }
tasks_good o (f ∷ fs) b j l h = go (ℕ_discrete (tag_of f) 2) (tasks_good o fs (behind b f) (j + length f))
  where
    good : fault o b f ≡ 0
    good = first_good o f fs b j h

    later : judged o (behind b f) (j + length f) fs ≡ Accepted
    later = sym (judged_good o b j f fs good) ∙ h

    go : Dec (tag_of f ≡ 2) → ((behind b f).tasks ≤ 64 → judged o (behind b f) (j + length f) fs ≡ Accepted → TasksGood (behind b f).tasks (tasks_in fs)) → TasksGood b.tasks (tasks_in (f ∷ fs))
    go (yes t) ih = rw (tasks_more f fs t) (record { room = omega (arith, g.room, one); values = value })
      where
        one : (behind b f).tasks ≡ b.tasks + 1
        one = rw (eq-eqb (tag_of f) 2 t)

        g : TasksGood (behind b f).tasks (tasks_in fs)
        g = ih (omega (arith, one, (whole_field o b f good).header.room t)) later

        value : (i : ℕ) → i < length (task_of_field f ∷ tasks_in fs) → values_fit (get_or (task_of_field f ∷ tasks_in fs) i no_task) ≡ true
        value zero k = values_good f t (values_of o b f good)
        value (suc i) k = g.values i (omega arith)
    go (no t) ih =
        let same : (behind b f).tasks ≡ b.tasks = rw (ne_eqb (tag_of f) 2 t) in
        let g : TasksGood (behind b f).tasks (tasks_in fs) = ih (omega (arith, same)) later in
        rw (tasks_other f fs t) (record { room = omega (arith, g.room, same); values = g.values })

-- a default is 1 to 16
default_fits : (d : Default) → cores_fit (default_cores d) ≡ true
default_fits Four = refl
default_fits Eight = refl

-- the core count of good fields is 1 to 16
cores_fit_lem : (d : Default) (o : Bool) (fs : List (List ℕ)) → judged o start 0 fs ≡ Accepted → cores_fit (cores_in d fs) ≡ true
cores_fit_lem d o [] h = default_fits d
cores_fit_lem d o (f ∷ fs) h = go (ℕ_discrete (tag_of f) 1)
  where
    go : Dec (tag_of f ≡ 1) → cores_fit (cores_in d (f ∷ fs)) ≡ true
    go (yes t) = rw (eq-eqb (tag_of f) 1 t) (cores_good f t (values_of o start f (first_good o f fs start 0 h)))
    go (no t) = rw (ne_eqb (tag_of f) 1 t) (default_fits d)

-- good fields with a task name a good table
pub table_good : (d : Default) (o : Bool) (fs : List (List ℕ)) → judged o start 0 fs ≡ Accepted → 1 ≤ length (tasks_in fs) → checked_tasks (cores_in d fs) (length (tasks_in fs)) (task_of (record_in d fs)) ≡ Accepted
table_good d o fs h some =
    let g : TasksGood 0 (tasks_in fs) = tasks_good o fs start 0 (omega arith) h in
    all_good (cores_in d fs) (length (tasks_in fs)) (task_of (record_in d fs)) (cores_fit_lem d o fs h) (both_make (le-leb 1 (length (tasks_in fs)) some) (le-leb (length (tasks_in fs)) 64 (omega (arith, g.room)))) (λ i l. rw (filled_get 64 no_task (tasks_in fs) i) (g.values i l))

-- there are at most 64 of them
pub tasks_few : (o : Bool) (fs : List (List ℕ)) → judged o start 0 fs ≡ Accepted → length (tasks_in fs) ≤ 64
tasks_few o fs h = omega (arith, (tasks_good o fs start 0 (omega arith) h).room)

-- in a table file a piece is out of its order
not_piece : (b : Before) (f : List ℕ) → tag_of f ≡ 3 → in_place false b f ≡ false
unfolding in_place
not_piece b f t = rw t

-- a table file of good fields has no piece
pub no_piece_lem : (fs : List (List ℕ)) (b : Before) (j : ℕ) → judged false b j fs ≡ Accepted → (pieces_in fs ≡ []) × (kinds_fit fs ≡ true)
unfolding pieces_in kinds_fit
no_piece_lem [] b j h = (refl, refl)
no_piece_lem (f ∷ fs) b j h = go (ℕ_discrete (tag_of f) 3) (no_piece_lem fs (behind b f) (j + length f))
  where
    good : fault false b f ≡ 0
    good = first_good false f fs b j h

    go : Dec (tag_of f ≡ 3) → (judged false (behind b f) (j + length f) fs ≡ Accepted → (pieces_in fs ≡ []) × (kinds_fit fs ≡ true)) → (pieces_in (f ∷ fs) ≡ []) × (kinds_fit (f ∷ fs) ≡ true)
    go (yes t) ih = clash (whole_field false b f good).header.tag.order (not_piece b f t)
    go (no t) ih = rw (pieces_other f fs t, kinds_other f fs t) (ih (sym (judged_good false b j f fs good) ∙ h))
