-- A worked example, and the test that it holds of the definitions.
use Rattle.std.specs.Prelude.{Bool, true, false, not, ◌&&◌, cond, List, [], ◌∷◌, ℕ, ◌+◌, ◌-◌, eqb, length, get_or, Result, Ok, Err}
use Rattle.std.proofs.Math.Option.{Option, none, some}
use Rattle.tasks.specs.Below.{tabulate}
use Rattle.tasks.specs.Refusals.{Told, place, task, given, needed, nothing, number, tells}
use Rattle.tasks.specs.Tables.{no_task, task_no, checked_table}
use Rattle.tasks.specs.Answers.{Answer, Accepted, Refused}
use Rattle.tasks.specs.declared.Refusal.{Refusal}
use Rattle.tasks.specs.declared.Table.{Table}
use Rattle.tasks.specs.declared.Task.{Task}
use Rattle.plans.specs.Interference.{interference}
use Rattle.plans.specs.Pieces.{task_of, piece_of}
use Rattle.plans.specs.Shape.{is_share}
use Rattle.plans.specs.declared.Piece.{Piece}
use Rattle.plans.specs.declared.Plan.{Plan}
use Rattle.bounds.specs.Bound.{local_deadline, bound}
use Rattle.planner.specs.Layout.{planned}
use Rattle.planner.specs.Limit.{allowance}
use Rattle.jobs.specs.Jobs.{no_job, no_run, by_runner, Runner, Runs}
use Rattle.jobs.specs.declared.Job.{Job}
use Rattle.jobs.specs.declared.Phase.TheVariants.{Active}
use Rattle.dispatch.specs.States.{job_of, fresh_state}
use Rattle.fullrate.specs.Allowed.{no_tasks, allowed_set}
use Rattle.dispatch.specs.Tick.{tick}
use Rattle.dispatch.specs.declared.State.{State}
use Rattle.dispatch.specs.declared.Ticked.{Ticked}

-- (c, d, p)
abbrev pub timed : ℕ → ℕ → ℕ → Task
timed c d p = record { cost = c; deadline = d; period = p }

pub data Kinds : Type 0 where
  whole share : Kinds

-- a line of a listing: task, core, kind, cost
pub record Line : Type 0 where
  pub task : ℕ
  pub core : ℕ
  pub kind : Kinds
  pub cost : ℕ

abbrev pub line : ℕ → ℕ → Kinds → ℕ → Line
line i x k e = record { task = i; core = x; kind = k; cost = e }

pub data Example : Type 0 where
  -- the interference of (e, p) in length L is v
  interferes : (e p L v : ℕ) → Example
  -- a piece of margin m and local deadline D allows a share of a task of period p this much
  allows : (m D p v : ℕ) → Example
  -- the table on so many cores is laid out in these pieces
  lays : (cores : ℕ) → List Task → List Line → Example
  -- the table on so many cores is refused with this number, telling that task
  refuses : (cores : ℕ) → List Task → (number task : ℕ) → Example
  -- a table record with these counts is refused with this number, telling the value given
  judges : (cores count : ℕ) → (number given : ℕ) → Example
  -- the table's plan, every task released as soon as allowed and none finishing early, runs these tasks on the cores, a row a tick, with these totals
  runs : (cores : ℕ) → List Task → List (List (Option ℕ)) → (late preemptions : ℕ) → Example
  -- a tick of the table's plan, without finishes and releases, from a state that has these jobs, these tasks last on the cores and these totals:
  -- what runs, the late marks of the tasks and the totals then
  ticks : (cores : ℕ) → List Task → List Job → List (Option ℕ) → (late preemptions : ℕ) → List (Option ℕ) → List Bool → (late preemptions : ℕ) → Example
  -- such a tick is refused with this number
  stops : (cores : ℕ) → List Task → List Job → List (Option ℕ) → (number : ℕ) → Example

-- ---- tests of equality
abbrev same_list : {A : Type 0} → (A → A → Bool) → List A → List A → Bool
same_list same [] [] = true
same_list same [] (b ∷ ys) = false
same_list same (a ∷ xs) [] = false
same_list same (a ∷ xs) (b ∷ ys) = same a b && same_list same xs ys

abbrev same_option : Option ℕ → Option ℕ → Bool
same_option none none = true
same_option none (some b) = false
same_option (some a) none = false
same_option (some a) (some b) = eqb a b

abbrev same_kind : Kinds → Kinds → Bool
same_kind whole whole = true
same_kind whole share = false
same_kind share whole = false
same_kind share share = true

abbrev same_line : Line → Line → Bool
same_line a b = eqb a.task b.task && eqb a.core b.core && same_kind a.kind b.kind && eqb a.cost b.cost

-- the task that is told, and the value given that is told
abbrev task_told : Told → Option ℕ
task_told (place a) = none
task_told (task i) = some i
task_told (given a) = none
task_told (needed a) = none
task_told nothing = none

abbrev given_told : Told → Option ℕ
given_told (place a) = none
given_told (task i) = none
given_told (given a) = some a
given_told (needed a) = none
given_told nothing = none

-- ---- what the definitions make of an example
abbrev table_of : ℕ → List Task → Table
table_of m ts = record { cores = m; count = length ts; tasks = tabulate 64 (λ i. get_or ts i no_task) }

abbrev line_of : Piece → Line
line_of z = record { task = z.task.0; core = z.core.0; kind = cond (is_share z.kind) share whole; cost = z.cost }

abbrev listing : Plan → List Line
listing p = tabulate p.placed (λ j. line_of (piece_of p j))

abbrev accepted : Answer → Bool
accepted Accepted = true
accepted (Refused r) = false

-- the tasks on the cores
abbrev shown_row : ℕ → List Runner → List (Option ℕ)
shown_row m rs = tabulate m (λ x. by_runner (get_or rs x no_run) none (λ i. some i))

-- a tick is accepted, its answer names these tasks, and the next state has them as those run last
abbrev ran_in : ℕ → Ticked → List (Option ℕ) → Bool
ran_in m t r = accepted t.answer && same_list same_option (shown_row m t.runs) r && same_list same_option (shown_row m t.state.last) r

-- k ticks from a state give these rows and end with these totals
abbrev ran_as : Plan → ℕ → ℕ → State → List (List (Option ℕ)) → Bool
ran_as p late preemptions s [] = eqb s.late late && eqb s.preemptions preemptions
ran_as p late preemptions s (r ∷ rs) =
    let t : Ticked = tick p s no_tasks (allowed_set p s) in
    ran_in p.cores t r && ran_as p late preemptions t.state rs

abbrev is_number : ℕ → Answer → Bool
is_number n Accepted = false
is_number n (Refused r) = eqb (number r) n

-- the refusal of number n, which tells this
abbrev refused_as : {A : Type 0} → (Told → Option ℕ) → ℕ → ℕ → Result A Refusal → Bool
refused_as told n i (Ok x) = false
refused_as told n i (Err r) = eqb (number r) n && same_option (told (tells r)) (some i)

-- the planner makes a plan, of which this holds
abbrev planned_so : Result Plan Refusal → (Plan → Bool) → Bool
planned_so (Ok p) f = f p
planned_so (Err r) f = false

-- a task alone on a core, whose one piece has local deadline D and margin m
abbrev alone : ℕ → ℕ → Table
alone m D = table_of 1 (timed (D - m) D D ∷ [])

abbrev has_margin : Plan → ℕ → ℕ → Bool
has_margin w m D = eqb (local_deadline (task_of w) (piece_of w) 0) D && eqb (bound (task_of w) (piece_of w) w.placed 0 + m) D

-- a job that is active at a piece
abbrev pub at : (age piece ran : ℕ) → Job
at a k r = record { phase = Active; late = false; piece = k; age = a; ran = r }

abbrev last_run : Option ℕ → Runner
last_run none = no_run
last_run (some i) = Runs (task_no i)

-- a state with these jobs, these tasks last on the cores, and these totals
abbrev state_of : List Job → List (Option ℕ) → ℕ → ℕ → State
state_of jobs last late preemptions = record {
  jobs = tabulate 64 (λ i. get_or jobs i no_job);
  last = tabulate 16 (λ x. last_run (get_or last x none));
  late = late;
  preemptions = preemptions;
}

abbrev marks : ℕ → State → List Bool
marks n s = tabulate n (λ i. (job_of s i).late)

abbrev same_bool : Bool → Bool → Bool
same_bool a b = cond a b (not b)

abbrev tick_from : Plan → State → Ticked
tick_from p s = tick p s no_tasks no_tasks

unfoldable pub holds : Example → Bool
holds (interferes e p L v) = eqb (interference e p L) v
holds (allows m D p v) = planned_so (planned (alone m D)) (λ w. has_margin w m D && eqb (allowance w p 0) v)
holds (lays m ts ls) = planned_so (planned (table_of m ts)) (λ w. same_list same_line (listing w) ls)
holds (refuses m ts n i) = refused_as task_told n i (planned (table_of m ts))
holds (judges m count n v) = refused_as given_told n v (checked_table (record { cores = m; count = count; tasks = [] }))
holds (runs m ts rows late preemptions) = planned_so (planned (table_of m ts)) (λ w. ran_as w late preemptions fresh_state rows)
holds (ticks m ts jobs last late preemptions row marked late' preemptions') =
    planned_so (planned (table_of m ts)) (λ w.
    let t : Ticked = tick_from w (state_of jobs last late preemptions) in
    ran_in m t row && same_list same_bool (marks (length ts) t.state) marked && eqb t.state.late late' && eqb t.state.preemptions preemptions')
holds (stops m ts jobs last n) = planned_so (planned (table_of m ts)) (λ w. is_number n (tick_from w (state_of jobs last 0 0)).answer)

-- every example of a list holds
unfoldable pub all_hold : List Example → Bool
all_hold [] = true
all_hold (e ∷ es) = holds e && all_hold es
