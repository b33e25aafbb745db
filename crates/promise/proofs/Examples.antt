-- That the hypotheses of demand 3 are met: document 01's P6 board, a slope table on four and on eight cores,
-- and a run of P6's board in which a share is held back on its last core by a later one, a job comes to its deadline and a release is asked for too soon.
use mathlib.Core.Path.{◌≡◌, refl}
use mathlib.Core.Logic.{◌⊎◌, inl, inr}
use mathlib.Core.Bool.{true}
use mathlib.Core.List.{List, [], ◌∷◌, ◌++◌, map}
use Prim.Native.Nat.{ℕ, ◌-◌, ◌≤◌, ◌<◌}
use native.Mathlib.Omega.{arith}
use lib.ListN.{length, replicate, take, drop}
use borrow.Author.Tests.{eqb-true}
use Rattle.tasks.proofs.Bools.{clash}
use Rattle.tasks.specs.Below.{all, any, first, sum, count, tabulate, padded}
use Rattle.tasks.specs.Refusals as told
use Rattle.tasks.specs.Refusals.{Refuses}
use Rattle.tasks.specs.Tables.{task_no, core_no, no_task, checked_tasks}
use Rattle.std.specs.Prelude.{Result, Ok, Err}
use Rattle.std.specs.Result.{IsOkAnd}
use Rattle.tasks.specs.declared.Refusal.{Refusal}
use Rattle.tasks.specs.declared.Table.{Table}
use Rattle.tasks.specs.declared.Task.{Task}
use Rattle.bounds.specs.Bound.{local_deadline, load, bound}
use Rattle.plans.specs.Interference.{interference, periods}
use Rattle.plans.specs.Pieces.{no_piece, task_of, costs}
use Rattle.plans.specs.Rank.{above}
use Rattle.plans.specs.Shape.{follows, in_order, is_last, piece_fits, shape, checked_plan}
use Rattle.plans.specs.declared.Kind.{Kind}
use Rattle.plans.specs.declared.Kind.TheVariants.{Whole, Share}
use Rattle.plans.specs.declared.Piece.{Piece}
use Rattle.plans.specs.declared.Plan.{Plan}
use Rattle.planner.specs.Layout.{start, place, lay_first, planned}
use Rattle.planner.specs.Limit.{allowance, limit_of}
use Rattle.planner.specs.Shared.{give_share, close, share_from}
use Rattle.planner.specs.Whole.{put, takes_whole}
use Rattle.dispatch.specs.States.{fresh_state, job_of, well_made}
use Rattle.dispatch.specs.Refusing.{judged_sets, lowest}
use Rattle.dispatch.specs.Tick.{judged, tick}
use Rattle.dispatch.specs.Rules.{each_job, finish, mark_late, release, run, age, count_preempted, preempted, highest, first_piece}
use Rattle.jobs.specs.Sets.{member}
use Rattle.dispatch.specs.Advance.{checked, next_state}
use Rattle.jobs.specs.WellMade.{core_well_made, job_well_made}
use Rattle.jobs.specs.declared.Phase.TheVariants.{Ended}
use Rattle.jobs.specs.Jobs.{Runner, Runs}
use Rattle.dispatch.specs.declared.State.{State}
use Rattle.jobs.specs.declared.Tasks.{Tasks}
use Rattle.promise.specs.Demand3.{Due, Demand3}
use Rattle.promise.specs.Requests.{Request, asked, after, reached, tally, named_on, times_named, finishes}
use Rattle.promise.specs.TooSoon.{AsksSoon, FinishRefused, ChangesNothing}
use Rattle.promise.proofs.Demand3.{no_job_is_late}

task : ℕ → ℕ → ℕ → Task
task c d p = record { cost = c; deadline = d; period = p }

table_of : ℕ → List Task → Table
table_of m ts = record { cores = m; count = length ts; tasks = ts ++ replicate (64 - length ts) no_task }

-- ---- P6: three cores, (6,10,10) five times
six : Table
unfolding task table_of
six = table_of 3 (replicate 5 (task 6 10 10))

piece : ℕ → ℕ → Kind → ℕ → Piece
piece i x k e = record { task = task_no i; core = core_no x; kind = k; cost = e }

six_plan : Plan
unfolding task piece
six_plan = record {
  cores = 3;
  count = 5;
  tasks = replicate 5 (task 6 10 10) ++ replicate 59 no_task;
  placed = 7;
  pieces = (piece 0 0 Whole 6 ∷ piece 1 1 Whole 6 ∷ piece 2 2 Whole 6 ∷ piece 3 0 Share 4 ∷ piece 3 1 Share 2 ∷ piece 4 1 Share 2 ∷ piece 4 2 Share 4 ∷ []) ++ replicate 121 no_piece;
}

-- ---- slope: two heavy jobs, the slope fit (13,25,25) and the mask fit (11,30,30), are shared and meet on core 1
slope : ℕ → List Task → Table
unfolding task table_of
slope m more = table_of m ((task 12 20 20 ∷ task 11 20 20 ∷ task 14 20 20 ∷ task 12 20 20 ∷ []) ++ more ++ task 13 25 25 ∷ task 11 30 30 ∷ [])

slope_four : Table
unfolding slope
slope_four = slope 4 []

slope_eight : Table
unfolding slope task
slope_eight = slope 8 (task 12 20 20 ∷ task 13 20 20 ∷ task 14 20 20 ∷ task 12 20 20 ∷ [])

-- the shares of the slope fit, task i, and of the mask fit, task j
meeting : ℕ → ℕ → List Piece
unfolding piece
meeting i j = piece i 0 Share 8 ∷ piece i 1 Share 5 ∷ piece j 1 Share 4 ∷ piece j 2 Share 6 ∷ piece j 3 Share 1 ∷ []

-- the planner lays all three out
record LaidOut : Type 0 where
  board : planned six ≡ Ok six_plan
  four : IsOkAnd (planned slope_four) (λ p. take 5 (drop 4 p.pieces) ≡ meeting 4 5)
  eight : IsOkAnd (planned slope_eight) (λ p. take 5 (drop 8 p.pieces) ≡ meeting 8 9)

laid_out : LaidOut
unfolding six six_plan slope_four slope_eight slope meeting table_of task piece planned start lay_first place takes_whole share_from give_share close put limit_of allowance bound load local_deadline costs interference periods above all any first sum padded tabulate checked_tasks
laid_out = record { board = refl; four = refl; eight = refl }

-- so demand 3 holds for each
met : (t : Table) (P : Plan → Type 0) → IsOkAnd (planned t) P → IsOkAnd (planned t) Demand3
met t P h = go (planned t) refl h
  where
    go : (r : Result Plan Refusal) → planned t ≡ r → IsOkAnd r P → IsOkAnd r Demand3
    go (Ok p) e k = (no_job_is_late t p e).1
    go (Err r) e k = k

kept : Demand3 six_plan × IsOkAnd (planned slope_four) Demand3 × IsOkAnd (planned slope_eight) Demand3
kept = ((no_job_is_late six six_plan laid_out.board).1, met slope_four _ laid_out.four, met slope_eight _ laid_out.eight)

-- ---- what the answers to a list of requests name on each core
rows : Plan → State → List Request → List (List Runner)
unfolding tabulate
rows p s [] = []
rows p s (q ∷ qs) = tabulate p.cores (named_on (asked p s q)) ∷ rows p (asked p s q).state qs

tasks_of : List ℕ → Tasks
tasks_of ts = record { members = map task_no ts; count = length ts }

-- a request without finishes
releasing : List ℕ → Request
unfolding tasks_of
releasing ts = record { finished = tasks_of []; released = tasks_of ts }

row : ℕ → ℕ → ℕ → List Runner
row a b c = Runs (task_no a) ∷ Runs (task_no b) ∷ Runs (task_no c) ∷ []

-- P6's board for ten ticks: tasks 0 to 3 are released in the first of them
opening : Request
unfolding releasing
opening = releasing (0 ∷ 1 ∷ 2 ∷ 3 ∷ [])

-- the first four of them
first_four : List Request
unfolding opening releasing
first_four = opening ∷ replicate 3 (releasing [])

-- all but the first of them; task 4 is released in the fifth
rest : List Request
unfolding releasing
rest = replicate 3 (releasing []) ++ releasing (4 ∷ []) ∷ replicate 5 (releasing [])

-- Task 4 is released when task 3 comes to its last share, on core 1, and holds it back there for two ticks.
held_back : rows six_plan fresh_state (opening ∷ rest) ≡ replicate 4 (row 3 1 2) ++ replicate 2 (row 0 4 2) ++ row 0 3 4 ∷ row 0 3 4 ∷ row 0 1 4 ∷ row 0 1 4 ∷ []
unfolding six_plan task piece rows tasks_of releasing opening rest row tick next_state checked judged judged_sets lowest well_made core_well_made job_well_made finish mark_late release run age count_preempted preempted each_job highest first_piece member padded tabulate count checked_plan checked_tasks shape piece_fits in_order follows is_last costs above all any first sum
held_back = refl

-- ten ticks are task 3's deadline
three_due : Due six_plan [] opening rest 3
unfolding six_plan task piece tasks_of releasing opening rest tally after tick next_state checked judged judged_sets lowest well_made core_well_made job_well_made finish mark_late release run age count_preempted preempted each_job highest first_piece member padded tabulate count checked_plan checked_tasks shape piece_fits in_order follows is_last costs above all any first sum
three_due = record { task = omega arith; accepted = refl; released = refl; over = refl }

-- so its job has ended, having been named in as many ticks as it costs, or having been finished
three_ended : ((job_of (reached six_plan (opening ∷ rest)) 3).phase ≡ Ended)
    × ((times_named 3 six_plan (reached six_plan []) (opening ∷ rest) ≡ (task_of six_plan 3).cost) ⊎ ((times_named 3 six_plan (reached six_plan []) (opening ∷ rest) < (task_of six_plan 3).cost) × (1 ≤ finishes 3 six_plan (reached six_plan (opening ∷ [])) rest)))
three_ended = (kept.0.ends [] opening rest 3 three_due, kept.0.shown [] opening rest 3 three_due)

-- after them six ticks have been accepted since task 4's release, that one counted, and its period is ten: a release of it now comes too soon
four_soon : AsksSoon six_plan (opening ∷ rest) (releasing (4 ∷ [])) 4
unfolding six_plan task piece tasks_of releasing opening first_four rest tally after tick next_state checked judged judged_sets lowest well_made core_well_made job_well_made finish mark_late release run age count_preempted preempted each_job highest first_piece member padded tabulate count checked_plan checked_tasks shape piece_fits in_order follows is_last costs above all any first sum
four_soon = record {
  task = omega arith;
  released = refl;
  since = record { before = first_four; last = releasing (4 ∷ []); later = replicate 5 (releasing []); all = refl; accepted = refl; released = refl; none = refl };
  few = omega arith;
}

-- no other task is released
only_four : (k : ℕ) → member (releasing (4 ∷ [])).released k ≡ true → 4 ≡ k
unfolding releasing tasks_of member any
only_four k h = eqb-true 4 k h

-- no task is finished
none_finished_lem : (k : ℕ) → member (releasing (4 ∷ [])).finished k ≡ true → ⊥
unfolding releasing tasks_of member any
none_finished_lem k h = clash h refl

-- so it is refused with 11, which tells task 4
four_refused : Refuses (asked six_plan (reached six_plan (opening ∷ rest)) (releasing (4 ∷ []))).answer 11 (told.task 4)
four_refused = go (kept.0.eleven (opening ∷ rest) (releasing (4 ∷ [])) 4 four_soon (λ k l a. omega (arith, only_four k a.released)))
  where
    go : Refuses (asked six_plan (reached six_plan (opening ∷ rest)) (releasing (4 ∷ []))).answer 11 (told.task 4) ⊎ FinishRefused six_plan (reached six_plan (opening ∷ rest)) (releasing (4 ∷ [])) → Refuses (asked six_plan (reached six_plan (opening ∷ rest)) (releasing (4 ∷ []))).answer 11 (told.task 4)
    go (inl r) = r
    go (inr f) = absurd (none_finished_lem f.named f.finished)

-- and whatever comes later is as if it had not been asked for
four_uncounted : (later : List Request) → ChangesNothing six_plan (opening ∷ rest) (releasing (4 ∷ [])) later
four_uncounted later = kept.0.uncounted (opening ∷ rest) (releasing (4 ∷ [])) later (kept.0.soon (opening ∷ rest) (releasing (4 ∷ [])) 4 four_soon)
