-- The six rules of a tick, each from state to state, in document 01's order, and the preemptions.
-- Each rule reads the plan's tasks and cores alone; past the tasks it leaves no job, and past the cores nothing runs after rule 4.
use Rattle.std.specs.Prelude.{Bool, true, false, not, ◌&&◌, cond, ℕ, zero, suc, ◌+◌, min, ltb, eqb}
use Rattle.tasks.specs.Below.{first, count, padded}
use Rattle.tasks.specs.Tables.{task_no}
use Rattle.plans.specs.Pieces.{task_of, piece_of}
use Rattle.plans.specs.Rank.{above}
use Rattle.plans.specs.Shape.{is_last}
use Rattle.plans.specs.declared.Piece.{Piece}
use Rattle.plans.specs.declared.Plan.{Plan}
use Rattle.jobs.specs.Jobs.{no_job, no_run, by_runner, is_active, once_released, names, Runner, Idle, Runs}
use Rattle.dispatch.specs.States.{job_of, last_of}
use Rattle.jobs.specs.Sets.{member}
use Rattle.jobs.specs.declared.Job.{Job}
use Rattle.jobs.specs.declared.Phase.TheVariants.{Active, Ended}
use Rattle.dispatch.specs.declared.State.{State}
use Rattle.jobs.specs.declared.Tasks.{Tasks}

-- the state with the job of each of the plan's tasks changed by f
unfoldable pub each_job : Plan → (ℕ → Job → Job) → State → State
each_job p f s = record {
  jobs = padded 64 p.count no_job (λ i. f i (job_of s i));
  last = s.last;
  late = s.late;
  preemptions = s.preemptions;
}

-- a total with k more, which stops at 4,294,967,295
abbrev pub total : ℕ → ℕ → ℕ
total a k = min (a + k) 4294967295

abbrev pub ended_job : Job → Job
ended_job j = record { phase = Ended; late = false; piece = 0; age = j.age; ran = 0 }

-- ---- 1. A finished task ends its job. If its cost had already ended the job, nothing more happens.
abbrev pub finished_job : Tasks → ℕ → Job → Job
finished_job fs i j = cond (member fs i && is_active j.phase) (ended_job j) j

unfoldable pub finish : Plan → Tasks → State → State
finish p fs s = each_job p (finished_job fs) s

-- ---- 2. Each active job with age = d and no late mark is marked and counted late.
abbrev pub turns_late : Plan → ℕ → Job → Bool
turns_late p i j = is_active j.phase && eqb j.age (task_of p i).deadline && not j.late

abbrev pub marked_job : Plan → ℕ → Job → Job
marked_job p i j = cond (turns_late p i j) (record { phase = j.phase; late = true; piece = j.piece; age = j.age; ran = j.ran }) j

unfoldable pub mark_late : Plan → State → State
mark_late p s = record {
  jobs = (each_job p (marked_job p) s).jobs;
  last = s.last;
  late = total s.late (count p.count (λ i. turns_late p i (job_of s i)));
  preemptions = s.preemptions;
}

-- ---- 3. Each released task becomes active, age 0, first piece.
unfoldable pub first_piece : Plan → ℕ → ℕ
first_piece p i = first p.placed (λ j. eqb (piece_of p j).task.0 i)

abbrev pub released_job : Plan → Tasks → ℕ → Job → Job
released_job p rs i j = cond (member rs i) (record { phase = Active; late = false; piece = first_piece p i; age = 0; ran = 0 }) j

unfoldable pub release : Plan → Tasks → State → State
release p rs s = each_job p (released_job p rs) s

-- ---- 4. On each core the highest ranked piece that an active job is at now runs one tick.
-- the piece that task i's job is at
abbrev pub piece_at : Plan → State → ℕ → Piece
piece_at p s i = piece_of p (job_of s i).piece

-- task i's job is active and at a piece on core x
abbrev pub stands_on : Plan → State → ℕ → ℕ → Bool
stands_on p s x i = is_active (job_of s i).phase && eqb (piece_at p s i).core.0 x

-- no task was found so far, or task i's piece is ranked above that of the one found
abbrev pub beats : Plan → State → ℕ → Runner → Bool
beats p s i r = by_runner r true (λ t. above (task_of p) (piece_at p s i) (piece_at p s t))

-- of the first k tasks, the one whose job is at the highest ranked piece on core x
unfoldable pub highest : Plan → State → ℕ → ℕ → Runner
highest p s x zero = Idle
highest p s x (suc k) =
    cond (stands_on p s x k && beats p s k (highest p s x k)) (Runs (task_no k)) (highest p s x k)

abbrev pub chosen : Plan → State → ℕ → Runner
chosen p s x = highest p s x p.count

-- task i is the one chosen on the core of its piece
abbrev pub runs_now : Plan → State → ℕ → Bool
runs_now p s i = is_active (job_of s i).phase && names i (highest p s (piece_at p s i).core.0 p.count)

-- ---- 5. A job whose piece is used up goes to its next piece, from the next tick on, or ends after the last.
abbrev pub ran_job : Plan → Job → Job
ran_job p j =
    cond (ltb (j.ran + 1) (piece_of p j.piece).cost)
    (record { phase = j.phase; late = j.late; piece = j.piece; age = j.age; ran = j.ran + 1 })
    (cond (is_last (piece_of p) p.placed j.piece)
    (ended_job j)
    (record { phase = j.phase; late = j.late; piece = j.piece + 1; age = j.age; ran = 0 }))

-- all runners are chosen from the one state before any of them has run
unfoldable pub run : Plan → State → State
run p s = record {
  jobs = (each_job p (λ i j. cond (runs_now p s i) (ran_job p j) j) s).jobs;
  last = padded 16 p.cores no_run (chosen p s);
  late = s.late;
  preemptions = s.preemptions;
}

-- ---- 6. Ages of all tasks once released rise by 1, up to p.
abbrev pub aged_job : Plan → ℕ → Job → Job
aged_job p i j =
    cond (once_released j.phase)
    (record { phase = j.phase; late = j.late; piece = j.piece; age = min (j.age + 1) (task_of p i).period; ran = j.ran }) j

unfoldable pub age : Plan → State → State
age p s = each_job p (aged_job p) s

-- ---- A preemption is counted for a core if the task that ran there in the tick before is still active after rule 1 and does not run there now.
-- `after` is the state after rule 1, which still has what ran in the tick before; `now` has what runs now.
unfoldable pub preempted : State → State → ℕ → Bool
preempted after now x =
    by_runner (last_of after x) false (λ t. is_active (job_of after t).phase && not (names t (last_of now x)))

unfoldable pub count_preempted : Plan → State → State → State
count_preempted p after now = record {
  jobs = now.jobs;
  last = now.last;
  late = now.late;
  preemptions = total now.preemptions (count p.cores (preempted after now));
}
