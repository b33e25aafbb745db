-- Every task that may be released: rule 3's condition, and the set of the tasks that meet it.
use Rattle.std.specs.Prelude.{Bool, true, false, cond, ℕ, zero, suc, ◌+◌, min, eqb, set, replicate}
use Rattle.tasks.specs.Tables.{task_no}
use Rattle.plans.specs.Pieces.{task_of}
use Rattle.plans.specs.declared.Plan.{Plan}
use Rattle.jobs.specs.Jobs.{by_phase}
use Rattle.dispatch.specs.States.{job_of}
use Rattle.dispatch.specs.declared.State.{State}
use Rattle.jobs.specs.declared.Tasks.{Tasks}

-- ended or never released, and in the first case of age p
abbrev pub allowed : Plan → State → ℕ → Bool
allowed p s i = by_phase (job_of s i).phase true false (eqb (job_of s i).age (task_of p i).period)

abbrev pub no_tasks : Tasks
no_tasks = record { members = replicate 64 (task_no 0); count = 0 }

abbrev pub with_task : Tasks → ℕ → Tasks
with_task u i = record { members = set u.members u.count (task_no i); count = u.count + 1 }

-- those of the first k tasks that are allowed
unfoldable pub allowed_below : Plan → State → ℕ → Tasks
allowed_below p s zero = no_tasks
allowed_below p s (suc k) = cond (allowed p s k) (with_task (allowed_below p s k) k) (allowed_below p s k)

abbrev pub allowed_set : Plan → State → Tasks
allowed_set p s = allowed_below p s (min p.count 64)
