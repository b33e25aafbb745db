-- The state's jobs and cores by their number, the fresh state, a well made state, and two states that are the same.
use Rattle.std.specs.Prelude.{◌≡◌, Bool, ◌&&◌, ℕ, ◌≤◌, ◌<◌, get_or, replicate}
use Rattle.plans.specs.declared.Plan.{Plan}
use Rattle.jobs.specs.Jobs.{no_job, no_run, Runner, Idle}
use Rattle.jobs.specs.declared.Job.{Job}
use Rattle.jobs.specs.WellMade.{jobs_well_made, cores_well_made}
use Rattle.dispatch.specs.declared.State.{State}

abbrev pub job_of : State → ℕ → Job
job_of s i = get_or s.jobs i no_job

-- the task run on core x in the last tick, or none
abbrev pub last_of : State → ℕ → Runner
last_of s x = get_or s.last x no_run

-- a fresh state has nothing released and zeros
abbrev pub fresh_state : State
fresh_state = record { jobs = replicate 64 no_job; last = replicate 16 no_run; late = 0; preemptions = 0 }

unfoldable pub well_made : Plan → State → Bool
well_made p s = jobs_well_made p s.jobs && cores_well_made p s.jobs s.last

-- two states of a plan are the same if they agree up to the plan's counts
pub record SameState (p : Plan) (a b : State) : Type 0 where
  pub jobs : (i : ℕ) → i < p.count → job_of a i ≡ job_of b i
  pub last : (x : ℕ) → x < p.cores → last_of a x ≡ last_of b x
  pub late : a.late ≡ b.late
  pub preemptions : a.preemptions ≡ b.preemptions

-- in a state that we make the entries past the counts are 0 or none
pub record CleanState (p : Plan) (s : State) : Type 0 where
  pub jobs : (i : ℕ) → p.count ≤ i → job_of s i ≡ no_job
  pub last : (x : ℕ) → p.cores ≤ x → last_of s x ≡ Idle
