-- When a tick's sets are refused: 10, 11 and 12, each with the lowest task that it concerns.
use Rattle.std.specs.Prelude.{Bool, not, ◌&&◌, ◌||◌, cond, ℕ, ltb, eqb, Option, None, Some}
use Rattle.tasks.specs.Below.{any, first}
use Rattle.tasks.specs.Tables.{task_no, and_then}
use Rattle.tasks.specs.Answers.{Answer, Accepted, Refused}
use Rattle.tasks.specs.declared.Refusal.{Refusal}
use Rattle.tasks.specs.declared.Refusal.TheVariants.{NotRun, TooSoon, StillActive}
use Rattle.tasks.specs.declared.TaskNo.{TaskNo}
use Rattle.plans.specs.Pieces.{task_of}
use Rattle.plans.specs.declared.Plan.{Plan}
use Rattle.jobs.specs.Jobs.{is_active, once_released, names}
use Rattle.dispatch.specs.States.{job_of, last_of}
use Rattle.dispatch.specs.Rules.{finish}
use Rattle.jobs.specs.Sets.{member}
use Rattle.dispatch.specs.declared.State.{State}
use Rattle.jobs.specs.declared.Tasks.{Tasks}

-- 10: not run in the tick before, or no such task
abbrev pub not_run : Plan → State → ℕ → Bool
not_run p s t = not (ltb t p.count && any p.cores (λ x. names t (last_of s x)))

-- 11: no such task, or at age below p after a release
abbrev pub too_soon : Plan → State → ℕ → Bool
too_soon p s t = not (ltb t p.count) || (once_released (job_of s t).phase && ltb (job_of s t).age (task_of p t).period)

-- 12: at age p while active
abbrev pub still_active : Plan → State → ℕ → Bool
still_active p s t = is_active (job_of s t).phase && eqb (job_of s t).age (task_of p t).period

-- the lowest task that was found, as a number, or 256 where there is none
abbrev pub lowest_no : Option TaskNo → ℕ
lowest_no None = 256
lowest_no (Some t) = t.0

-- the refusal for the lowest member of a set that is bad; a task's number is below 256
unfoldable pub lowest : Tasks → (ℕ → Bool) → (TaskNo → Refusal) → Answer
lowest u bad say =
    let wrong : ℕ → Bool = λ t. member u t && bad t in
    cond (any 256 wrong) (Refused (say (task_no (first 256 wrong)))) Accepted

-- refusals 11 and 12 are judged after finishes
unfoldable pub judged_sets : Plan → State → Tasks → Tasks → Answer
judged_sets p s fs rs =
    let after : State = finish p fs s in
    and_then (lowest fs (not_run p s) NotRun)
    (and_then (lowest rs (too_soon p after) TooSoon) (lowest rs (still_active p after) StillActive))
