-- Demand 3: what is promised of a plan, for every list of tick requests from the fresh state.
-- That it holds for every table for which the planner answers with a plan is `no_job_is_late` in proofs/Demand3.antt.
use Rattle.std.specs.Prelude.{◌≡◌, ◌⊎◌, true, false, List, [], ◌∷◌, ◌++◌, ℕ, ◌≤◌, ◌<◌}
use Rattle.tasks.specs.Refusals.{task, Refuses}
use Rattle.tasks.specs.Tables as table
use Rattle.tasks.specs.declared.Table.{Table}
use Rattle.plans.specs.Pieces.{task_of}
use Rattle.plans.specs.declared.Plan.{Plan}
use Rattle.jobs.specs.Jobs.{names}
use Rattle.dispatch.specs.States.{job_of}
use Rattle.jobs.specs.Sets.{member}
use Rattle.jobs.specs.declared.Phase.TheVariants.{Ended}
use Rattle.dispatch.specs.declared.State.{State}
use Rattle.promise.specs.Requests.{Request, asked, accepts, after, reached, named_on, ticks, times_named, finishes, releases}
use Rattle.promise.specs.TooSoon.{AsksSoon, FinishRefused, ChangesNothing}

-- No answer names a task on two cores, in any state.
abbrev pub OneCore : Plan → Type 0
OneCore p = (s : State) (q : Request) (i x y : ℕ) → names i (named_on (asked p s q) x) ≡ true → names i (named_on (asked p s q) y) ≡ true → x ≡ y

-- Within a job, that is until the task is released again, the named core never falls, from any state.
abbrev pub CoresRise : Plan → Type 0
CoresRise p = (s : State) (q : Request) (between : List Request) (r : Request) (i x y : ℕ) →
    names i (named_on (asked p s q) x) ≡ true → releases i p (asked p s q).state (between ++ r ∷ []) ≡ 0 →
    names i (named_on (asked p (after p (asked p s q).state between) r) y) ≡ true → x ≤ y

-- After the requests `before`, q is accepted and releases task i; from q on, q counted, as many ticks are accepted as i's deadline says.
pub record Due (p : Plan) (before : List Request) (q : Request) (later : List Request) (i : ℕ) : Type 0 where
  pub task : i < p.count
  pub accepted : accepts p (reached p before) q ≡ true
  pub released : member q.released i ≡ true
  pub over : ticks p (reached p before) (q ∷ later) ≡ (task_of p i).deadline

pub record Demand3 (p : Plan) : Type 0 where
  -- then the job has ended
  pub ends : (before : List Request) (q : Request) (later : List Request) (i : ℕ) → Due p before q later i → (job_of (reached p (before ++ q ∷ later)) i).phase ≡ Ended
  -- said by what the answers show: in those ticks the task was named in exactly its cost's number of them, or in fewer, and a finish of it was accepted after the release
  pub shown : (before : List Request) (q : Request) (later : List Request) (i : ℕ) → Due p before q later i →
      (times_named i p (reached p before) (q ∷ later) ≡ (task_of p i).cost)
      ⊎ ((times_named i p (reached p before) (q ∷ later) < (task_of p i).cost) × (1 ≤ finishes i p (reached p (before ++ q ∷ [])) later))
  -- the late total never rises
  pub none : (qs : List Request) → (reached p qs).late ≡ 0
  pub one_core : OneCore p
  pub rises : CoresRise p
  -- a request that releases a task too soon is refused
  pub soon : (qs : List Request) (q : Request) (i : ℕ) → AsksSoon p qs q i → accepts p (reached p qs) q ≡ false
  -- with 11, which tells the lowest such task, unless 10 comes before it
  pub eleven : (qs : List Request) (q : Request) (i : ℕ) → AsksSoon p qs q i → ((k : ℕ) → k < i → AsksSoon p qs q k → ⊥) →
      Refuses (asked p (reached p qs) q).answer 11 (task i) ⊎ FinishRefused p (reached p qs) q
  -- and 11 tells a task of the plan only if it is released too soon
  pub only : (qs : List Request) (q : Request) (i : ℕ) → i < p.count → Refuses (asked p (reached p qs) q).answer 11 (task i) → AsksSoon p qs q i
  -- a refused request does not count
  pub uncounted : (before : List Request) (q : Request) (later : List Request) → accepts p (reached p before) q ≡ false → ChangesNothing p before q later

-- a plan of the table's tasks on the table's cores
pub record PlanOf (t : Table) (p : Plan) : Type 0 where
  pub cores : p.cores ≡ t.cores
  pub count : p.count ≡ t.count
  pub tasks : (i : ℕ) → i < t.count → task_of p i ≡ table.task_of t i
