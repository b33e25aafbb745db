-- A job's phase and what runs on a core, by cases.
use Rattle.std.specs.Prelude.{Bool, true, false, ℕ, eqb, Option, None, Some}
use Rattle.tasks.specs.declared.TaskNo.{TaskNo}
use Rattle.jobs.specs.declared.Job.{Job}
use Rattle.jobs.specs.declared.Phase.{Phase}
use Rattle.jobs.specs.declared.Phase.TheVariants.{Never, Active, Ended}

abbrev pub no_job : Job
no_job = record { phase = Never; late = false; piece = 0; age = 0; ran = 0 }

-- what runs on a core: nothing, or a task
abbrev pub Runner : Type 0
Runner = Option TaskNo

pattern abbrev pub Idle : Runner
Idle = None

pattern abbrev pub Runs : TaskNo → Runner
Runs t = Some t

abbrev pub no_run : Runner
no_run = Idle

-- one answer for each phase
abbrev pub by_phase : {A : Type 0} → Phase → A → A → A → A
by_phase Never never active ended = never
by_phase Active never active ended = active
by_phase Ended never active ended = ended

abbrev pub is_active : Phase → Bool
is_active h = by_phase h false true false

abbrev pub once_released : Phase → Bool
once_released h = by_phase h false true true

-- one answer where nothing runs, and one for the task that does
abbrev pub by_runner : {A : Type 0} → Runner → A → (ℕ → A) → A
by_runner Idle none runs = none
by_runner (Runs t) none runs = runs t.0

-- is it task i that runs?
abbrev pub names : ℕ → Runner → Bool
names i r = by_runner r false (λ t. eqb t i)
