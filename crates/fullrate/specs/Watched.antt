-- The longest response that was seen of each task in a run at full rate.
use Rattle.std.specs.Prelude.{Bool, cond, List, ℕ, zero, suc, min, max, get_or, replicate}
use Rattle.tasks.specs.Below.{any, padded}
use Rattle.plans.specs.declared.Plan.{Plan}
use Rattle.jobs.specs.Jobs.{names, no_run, Runner}
use Rattle.dispatch.specs.States.{job_of, fresh_state}
use Rattle.dispatch.specs.declared.State.{State}
use Rattle.dispatch.specs.declared.Ticked.{Ticked}
use Rattle.fullrate.specs.FullRate.{full_tick}
use Rattle.fullrate.specs.declared.Watched.{Watched}

-- did task i run on one of the m cores?
abbrev pub ran_in : ℕ → List Runner → ℕ → Bool
ran_in m runs i = any (min m 16) (λ x. names i (get_or runs x no_run))

-- the ticks since its release, this one included, if task i ran in it: in its job's last tick that is the job's response
abbrev pub seen : ℕ → List Runner → State → ℕ → ℕ
seen m runs s i = cond (ran_in m runs i) (job_of s i).age 0

-- a tick at full rate, and what is seen in it
abbrev pub watched_in : Plan → List ℕ → Ticked → Watched
watched_in p longest t = record {
  state = t.state;
  longest = padded 64 (min p.count 64) 0 (λ i. max (get_or longest i 0) (seen p.cores t.runs t.state i));
}

unfoldable pub watch_tick : Plan → Watched → Watched
watch_tick p w = watched_in p w.longest (full_tick p w.state)

unfoldable pub watched : Plan → ℕ → Watched
watched p zero = record { state = fresh_state; longest = replicate 64 0 }
watched p (suc n) = watch_tick p (watched p n)
