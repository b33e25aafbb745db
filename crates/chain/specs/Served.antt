-- What a table file comes to that is read, planned, written, read back and dispatched on a board.
use Rattle.std.specs.Prelude.{◌≡◌, List, ℕ, ◌≤◌, length, take, Ok}
use Rattle.tasks.specs.Tables.{checked_table}
use Rattle.tasks.specs.Answers.{Accepted}
use Rattle.tasks.specs.declared.Table.{Table}
use Rattle.plans.specs.declared.Plan.{Plan}
use Rattle.planner.specs.Layout.{planned}
use Rattle.files.specs.Files.{table_read, plan_read}
use Rattle.files.specs.declared.Default.{Default}
use Rattle.writing.specs.Fields.{plan_bytes}
use Rattle.writing.specs.Writing.{plan_written, plan_filled}
use Rattle.jobs.specs.declared.Tasks.{Tasks}
use Rattle.dispatch.specs.States.{fresh_state}
use Rattle.dispatch.specs.declared.State.{State}
use Rattle.board.specs.Kept.{kept_for}
use Rattle.board.specs.declared.Ran.{Ran}
use Rattle.promise.specs.Demand3.{Demand3, PlanOf}
use Rattle.promise.specs.Requests.{reached}
use Rattle.chain.specs.Asked.{asked_in}

-- what holds of bytes, read with the stated default, of a table and of a plan
pub record Served (d : Default) (s : List ℕ) (t : Table) (p : Plan) : Type 1 where
  -- the bytes hold the table, and the planner makes the plan for it
  pub held : table_read d s ≡ Ok t
  pub laid : planned t ≡ Ok p
  -- the table is good, and the plan is one of it
  pub good : checked_table t ≡ Accepted
  pub plan : PlanOf t p
  -- the writer takes the plan if the lent buffer has room for its file
  pub room : (e : List ℕ) → length (plan_bytes p) ≤ length e → plan_written p e ≡ Ok (length (plan_bytes p))
  -- what it wrote, in any buffer and however long, reads back to the planner's plan, with any default: the writer names the core count
  pub back : (c : Default) (e : List ℕ) (n : ℕ) → plan_written p e ≡ Ok n → plan_read c (take n (plan_filled p e)) ≡ Ok p
  -- for it demand 3 holds, for every list of requests
  pub on_time : Demand3 p
  -- and a loop that keeps one record and steps it in each turn comes to where the requests that it asked lead
  pub kept : {X : Type 0} (finished released : X → Plan → State → Tasks) (see : X → Plan → Ran → State → X) (n : ℕ) (x : X) →
      (kept_for finished released see p n x fresh_state).1 ≡ reached p (asked_in finished released see p n x fresh_state)
