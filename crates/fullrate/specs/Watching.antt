-- A run at full rate as a loop that keeps one record: what is asked in each tick, and what is seen in it.
use Rattle.std.specs.Prelude.{ℕ, min, max, get_or}
use Rattle.tasks.specs.Below.{padded}
use Rattle.plans.specs.declared.Plan.{Plan}
use Rattle.dispatch.specs.declared.State.{State}
use Rattle.jobs.specs.declared.Tasks.{Tasks}
use Rattle.board.specs.Kept.{kept_for}
use Rattle.board.specs.declared.Ran.{Ran}
use Rattle.fullrate.specs.Allowed.{no_tasks, allowed_set}
use Rattle.fullrate.specs.Watched.{seen}
use Rattle.fullrate.specs.declared.Seen.{Seen}
use Rattle.fullrate.specs.declared.Watched.{Watched}

-- whatever was seen so far: none is finished, and every task is released that may be
abbrev pub none_finished : {X : Type 0} → X → Plan → State → Tasks
none_finished x p s = no_tasks

abbrev pub all_released : {X : Type 0} → X → Plan → State → Tasks
all_released x p s = allowed_set p s

abbrev pub saw : Seen → Plan → Ran → State → Seen
saw x p r s = record { longest = padded 64 (min p.count 64) 0 (λ i. max (get_or x.longest i 0) (seen p.cores r.runs s i)) }

abbrev pub watched_at : Seen → State → Watched
watched_at x s = record { state = s; longest = x.longest }

-- n ticks from a state
abbrev pub watched_from : Seen → Plan → State → ℕ → Watched
watched_from x p s n = watched_at (kept_for none_finished all_released saw p n x s).0 (kept_for none_finished all_released saw p n x s).1
