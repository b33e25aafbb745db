-- A request that asks for a release too soon, and a request that does not count.
use Rattle.std.specs.Prelude.{◌≡◌, Bool, true, false, List, ◌∷◌, ◌++◌, ℕ, ◌<◌}
use Rattle.tasks.specs.Refusals.{task, Refuses}
use Rattle.plans.specs.Pieces.{task_of}
use Rattle.plans.specs.declared.Plan.{Plan}
use Rattle.jobs.specs.Sets.{member}
use Rattle.dispatch.specs.States.{fresh_state}
use Rattle.dispatch.specs.declared.State.{State}
use Rattle.dispatch.specs.declared.Ticked.{Ticked}
use Rattle.promise.specs.Requests.{Request, asked, accepts, after, reached, tally, ticks, releases}
use Rattle.promise.specs.View.{ran_last}

-- of the requests qs from state s on, `last` is the last accepted one that releases task i
pub record LastRelease (p : Plan) (s : State) (qs : List Request) (i : ℕ) : Type 0 where
  pub before : List Request
  pub last : Request
  pub later : List Request
  pub all : qs ≡ before ++ last ∷ later
  pub accepted : accepts p (after p s before) last ≡ true
  pub released : member last.released i ≡ true
  pub none : releases i p (asked p (after p s before) last).state later ≡ 0

-- After the requests qs, q releases task i too soon: since its last accepted release, that tick counted, fewer ticks have been accepted than its period says.
-- The p-th tick after that one is the first allowed.
pub record AsksSoon (p : Plan) (qs : List Request) (q : Request) (i : ℕ) : Type 0 where
  pub task : i < p.count
  pub released : member q.released i ≡ true
  pub since : LastRelease p fresh_state qs i
  pub few : ticks p (reached p since.before) (since.last ∷ since.later) < (task_of p i).period

-- In state s, q is refused with 10, which comes before 11: it finishes a task that is none of the plan's or was not run in the tick before.
pub record FinishRefused (p : Plan) (s : State) (q : Request) : Type 0 where
  pub named : ℕ
  pub finished : member q.finished named ≡ true
  pub idle : named < p.count → ran_last p s named ≡ false
  pub refuses : Refuses (asked p s q).answer 10 (task named)

-- Leaving q out from between two lists of requests changes no state, no later answer and no count.
pub record ChangesNothing (p : Plan) (before : List Request) (q : Request) (later : List Request) : Type 0 where
  pub state : reached p (before ++ q ∷ later) ≡ reached p (before ++ later)
  pub answer : (r : Request) → asked p (reached p (before ++ q ∷ later)) r ≡ asked p (reached p (before ++ later)) r
  pub count : (f : Request → Ticked → Bool) → tally f p fresh_state (before ++ q ∷ later) ≡ tally f p fresh_state (before ++ later)
