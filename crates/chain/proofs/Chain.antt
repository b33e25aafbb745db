-- From bytes to deadlines: a table file that is read and planned, its plan written, read back and dispatched.
use mathlib.Core.Path.{◌≡◌, refl, sym, ap, ◌∙◌}
use mathlib.Core.List.{List}
use Prim.Native.Nat.{ℕ, ◌≤◌}
use native.Mathlib.Nat.{le_refl}
use lib.ListN.{length, take}
use borrow.Author.Tests.{le-leb}
use Rattle.tasks.proofs.Padded.{padded_length}
use Rattle.tasks.specs.Tables.{no_task}
use Rattle.tasks.specs.Tables as table
use Rattle.std.specs.Prelude.{Ok}
use Rattle.tasks.specs.declared.Table.{Table}
use Rattle.tasks.specs.declared.Task.{Task}
use Rattle.plans.specs.declared.Plan.{Plan}
use Rattle.planner.proofs.Certified.{Planning, accepted_planning, planned_shape, planned_clean}
use Rattle.planner.proofs.Keeps.{lay_keeps}
use Rattle.planner.proofs.Reached.{lay_ready}
use Rattle.planner.specs.Layout.{start, planned}
use Rattle.files.proofs.Clean.{clean_plan_is}
use Rattle.files.specs.Files.{table_read, plan_read}
use Rattle.files.specs.Reading.{clean_plan}
use Rattle.files.specs.declared.Default.{Default}
use Rattle.writing.specs.Fields.{plan_bytes}
use Rattle.writing.specs.Writing.{plan_written, plan_filled}
use Rattle.trips.proofs.Files.{Slice, table_is_good}
use Rattle.trips.proofs.Trips.{plan_out_and_in}
use Rattle.dispatch.specs.States.{fresh_state}
use Rattle.promise.proofs.Demand3.{no_job_is_late}
use Rattle.promise.specs.Demand3.{Demand3, PlanOf}
use Rattle.chain.specs.Served.{Served}
use Rattle.chain.proofs.Loop.{kept_after}

-- a plan that the planner makes fills its record
module _ (t : Table) (p : Plan) (h : planned t ≡ Ok p) where
  -- the layout that the planner came to
  planning : Planning t p
  planning = accepted_planning t p h

  -- its list of tasks is whole
  tasks_long : length p.tasks ≡ 64
  unfolding start
  tasks_long = ap (λ (w : Plan). length w.tasks) planning.plan ∙ ap (λ (ts : List Task). length ts) (lay_keeps (start t) t.count planning.draft planning.lays).tasks ∙ padded_length 64 no_task t.count (table.task_of t)

  -- its list of pieces is whole
  pieces_long : length p.pieces ≡ 128
  pieces_long = ap (λ (w : Plan). length w.pieces) planning.plan ∙ (lay_ready t planning.good t.count (le_refl _) planning.draft planning.lays).long

  -- nothing is past its counts, so what is read back is the very record
  same : clean_plan p ≡ p
  same = clean_plan_is p (planned_clean t p h) tasks_long pieces_long

  -- the writer takes it if there is room
  taken : (e : List ℕ) → length (plan_bytes p) ≤ length e → plan_written p e ≡ Ok (length (plan_bytes p))
  unfolding plan_written
  taken e room = rw (planned_shape t p h, le-leb (length (plan_bytes p)) (length e) room)

  -- and what it leaves in the buffer reads back to it
  reads_back : (c : Default) (e : List ℕ) (n : ℕ) → plan_written p e ≡ Ok n → plan_read c (take n (plan_filled p e)) ≡ Ok p
  reads_back c e n w = plan_out_and_in c p e (plan_filled p e) n (plan_read c (take n (plan_filled p e))) (sym w) refl refl ∙ ap (λ (v : Plan). Ok v) same

-- bytes that are a table file whose table is planned: all of the chain holds
pub bytes_to_deadlines : (d : Default) (s : List ℕ) (t : Table) (p : Plan) → Slice s → table_read d s ≡ Ok t → planned t ≡ Ok p → Served d s t p
bytes_to_deadlines d s t p lent a h =
    let promised : PlanOf t p × Demand3 p = no_job_is_late t p h in
    record {
      held = a;
      laid = h;
      good = table_is_good d s lent t a;
      plan = promised.0;
      room = taken t p h;
      back = reads_back t p h;
      on_time = promised.1;
      kept = λ finished released see n x. kept_after finished released see p n x fresh_state;
    }
