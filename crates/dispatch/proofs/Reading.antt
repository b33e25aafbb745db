-- What the rules' walks make of a job or a core, told of what is read of it.
use mathlib.Core.Path.{◌≡◌, refl, sym}
use mathlib.Core.Bool.{Bool, true, false, not, ◌&&◌, ◌||◌, cond}
use mathlib.Core.List.{List}
use Prim.Native.Nat.{ℕ, suc, ◌+◌, ◌≤◌, ◌<◌, min}
use native.Mathlib.Decide.{dec_lt}
use native.Mathlib.Numerals.{add-one}
use native.Mathlib.Omega.{arith}
use lib.Dec.{ltb, eqb}
use lib.ListN.{length, get_or, get_or-eq_default}
use borrow.Author.Tests.{lt-ltb, le-ltb}
use Rattle.tasks.specs.Tables.{no_task}
use Rattle.tasks.specs.declared.Task.{Task}
use Rattle.tasks.proofs.Bools.{not_twice}
use Rattle.plans.specs.Pieces.{piece_of, task_of}
use Rattle.plans.specs.Shape.{is_last}
use Rattle.plans.specs.declared.Plan.{Plan}
use Rattle.std.specs.Option.{option_eq}
use Rattle.tasks.specs.contracts.TaskNoPartialEq.TheImpl.{eq-value}
use Rattle.tasks.specs.declared.TaskNo.{TaskNo}
use Rattle.jobs.specs.Jobs.{no_job, no_run, is_active, once_released, names, Runner, Idle, Runs}
use Rattle.dispatch.specs.States.{job_of, last_of}
use Rattle.dispatch.specs.Rules.{aged_job, preempted}
use Rattle.jobs.specs.declared.Job.{Job}
use Rattle.dispatch.specs.declared.State.{State}

-- rule 2, which reads the tasks of a plan alone
module _ (tasks : List Task) (i : ℕ) (j : Job) where
  abbrev pub turns_at : Bool
  turns_at = is_active j.phase && eqb j.age (get_or tasks i no_task).deadline && not j.late

  abbrev pub marked_at : Job
  marked_at = cond turns_at (record { phase = j.phase; late = true; piece = j.piece; age = j.age; ran = j.ran }) j

  pub marked_read : (turns : Bool) → turns ≡ turns_at → record { phase = j.phase; late = turns || j.late; piece = j.piece; age = j.age; ran = j.ran } ≡ marked_at
  marked_read true h = rw (← h)
  marked_read false h = rw (← h)

-- rule 6, for a job that was never released and for one that was
module _ (p : Plan) (i : ℕ) (j : Job) where
  pub aged_never : once_released j.phase ≡ false → j ≡ aged_job p i j
  aged_never h = rw h

  pub aged_once : (age : ℕ) → once_released j.phase ≡ true → age ≡ min (j.age + 1) (task_of p i).period → record { phase = j.phase; late = j.late; piece = j.piece; age = age; ran = j.ran } ≡ aged_job p i j
  aged_once age h e = rw (h, e)

-- is it this task that runs, by `==`?
pub named : (r : Runner) (u : TaskNo) → option_eq eq-value.it r (Runs u) ≡ names u.0 r
named Idle u = refl
named (Runs t) u = refl

-- a preemption on a core: none where nothing ran, and otherwise told of what is read of the task that did
module _ (after now : State) (last : List Runner) (x : ℕ) (el : after.last ≡ last) where
  pub pushed_none : get_or last x no_run ≡ Idle → false ≡ preempted after now x
  unfolding preempted
  pushed_none e = rw (el, e)

  pub pushed_read : (jobs : List Job) (k : ℕ) (u : TaskNo) (active gone : Bool) → length jobs ≡ 64 → after.jobs ≡ jobs → get_or last x no_run ≡ Runs u → k ≡ min u.0 63 → active ≡ is_active (get_or jobs k no_job).phase → gone ≡ not (names u.0 (last_of now x)) → ltb u.0 64 && active && gone ≡ preempted after now x
  unfolding preempted
  pushed_read jobs k u active gone size j e q h g = rw (el, e, h, q, g, ← j) (by (dec_lt u.0 64))
    where
      by : Dec (u.0 < 64) → ltb u.0 64 && is_active (job_of after (min u.0 63)).phase && not (names u.0 (last_of now x)) ≡ is_active (job_of after u.0).phase && not (names u.0 (last_of now x))
      by (yes b) = let m : min u.0 63 ≡ u.0 = omega arith in rw (lt-ltb u.0 64 b, m)
      by (no b) = let m : job_of after u.0 ≡ no_job = rw j (get_or-eq_default jobs no_job (omega arith)) in rw (le-ltb u.0 64 (omega arith), m)

-- whether a task has a piece after this one, the next being read within the record
pub more_read : (p : Plan) (place k t u : ℕ) → p.placed ≤ 128 → k ≡ min (place + 1) 127 → t ≡ (piece_of p place).task.0 → u ≡ (piece_of p k).task.0 → ltb (place + 1) p.placed && eqb t u ≡ not (is_last (piece_of p) p.placed place)
unfolding is_last
more_read p place k t u b e q h = go (dec_lt (place + 1) p.placed)
  where
    go : Dec (place + 1 < p.placed) → ltb (place + 1) p.placed && eqb t u ≡ not (not (ltb (suc place) p.placed && eqb (piece_of p place).task.0 (piece_of p (suc place)).task.0))
    go (yes l) = let m : k ≡ suc place = omega arith in rw (add-one, q, h, m) (sym (not_twice _))
    go (no l) = let z : suc place ≡ place + 1 = omega arith in rw (z, le-ltb (place + 1) p.placed (omega arith))
