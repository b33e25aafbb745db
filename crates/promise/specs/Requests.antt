-- Lists of tick requests, run one after another; a refused one counts for nothing.
use Rattle.std.specs.Prelude.{Bool, true, false, ◌&&◌, cond, List, [], ◌∷◌, ℕ, ◌+◌, get_or}
use Rattle.tasks.specs.Below.{any}
use Rattle.tasks.specs.Answers.{Answer, Accepted, Refused}
use Rattle.plans.specs.declared.Plan.{Plan}
use Rattle.jobs.specs.Jobs.{no_run, names, Runner}
use Rattle.jobs.specs.Sets.{member}
use Rattle.dispatch.specs.States.{fresh_state}
use Rattle.dispatch.specs.Tick.{tick}
use Rattle.dispatch.specs.declared.State.{State}
use Rattle.jobs.specs.declared.Tasks.{Tasks}
use Rattle.dispatch.specs.declared.Ticked.{Ticked}

-- what one tick is asked for: any two sets of tasks
pub record Request : Type 0 where
  pub finished : Tasks
  pub released : Tasks

-- what the tick answers to a request in state s
abbrev pub asked : Plan → State → Request → Ticked
asked p s q = tick p s q.finished q.released

abbrev pub is_accepted : Answer → Bool
is_accepted Accepted = true
is_accepted (Refused r) = false

abbrev pub accepts : Plan → State → Request → Bool
accepts p s q = is_accepted (asked p s q).answer

-- the state that a list of requests leads to from s
unfoldable pub after : Plan → State → List Request → State
after p s [] = s
after p s (q ∷ qs) = after p (asked p s q).state qs

-- the state of plan p that a list of requests leads to from the fresh one
abbrev pub reached : Plan → List Request → State
reached p qs = after p fresh_state qs

-- how many of a list of requests are accepted and pass a test of the request and its answer
unfoldable pub tally : (Request → Ticked → Bool) → Plan → State → List Request → ℕ
tally f p s [] = 0
tally f p s (q ∷ qs) = cond (accepts p s q && f q (asked p s q)) 1 0 + tally f p (asked p s q).state qs

-- what an answer names on core x
abbrev pub named_on : Ticked → ℕ → Runner
named_on t x = get_or t.runs x no_run

-- the accepted ticks
abbrev pub ticks : Plan → State → List Request → ℕ
ticks p s qs = tally (λ q t. true) p s qs

-- the accepted ticks whose answer names task i on a core
abbrev pub times_named : ℕ → Plan → State → List Request → ℕ
times_named i p s qs = tally (λ q t. any p.cores (λ x. names i (named_on t x))) p s qs

-- the accepted finishes of task i
abbrev pub finishes : ℕ → Plan → State → List Request → ℕ
finishes i p s qs = tally (λ q t. member q.finished i) p s qs

-- the accepted releases of task i
abbrev pub releases : ℕ → Plan → State → List Request → ℕ
releases i p s qs = tally (λ q t. member q.released i) p s qs
