-- Any reader, one made by hand too: what is handed out is 0 past its counts and good where it is accepted, and what the reader holds past its counts is not read.
use mathlib.Core.Path.{◌≡◌, refl, sym, ap, ◌∙◌}
use mathlib.Core.Bool.{Bool, true, false, ◌||◌, cond}
use Prim.Native.Nat.{◌≤◌}
use native.Mathlib.Omega.{arith}
use lib.Dec.{ltb}
use Rattle.std.specs.Prelude.{Ok}
use Rattle.tasks.proofs.Answers.{accepted_not, both_accepted}
use Rattle.tasks.proofs.Padded.{padded_in, padded_out}
use Rattle.tasks.proofs.SameTables.{tasks_same}
use Rattle.tasks.proofs.Tables.{accepted_good}
use Rattle.tasks.specs.Places.{place_at}
use Rattle.tasks.specs.Refusals.{place, Refuses}
use Rattle.tasks.specs.Tables.{no_task, checked_tasks, checked_table, CleanTable}
use Rattle.tasks.specs.Answers.{Accepted, Refused}
use Rattle.tasks.specs.declared.Refusal.TheVariants.{WrongTag, NoPlanShape}
use Rattle.plans.proofs.SamePlans.{checked_same}
use Rattle.tasks.specs.declared.Table.{Table}
use Rattle.plans.specs.Pieces.{no_piece, task_of, piece_of, SamePlan, CleanPlan}
use Rattle.plans.specs.Shape.{checked_plan}
use Rattle.plans.specs.declared.Plan.{Plan}
use Rattle.files.specs.Grammar.{answered, answer_of, table_of}
use Rattle.files.specs.Reading.{ended_after, table_ended, plan_ended, clean_plan, table_closed, plan_closed}
use Rattle.files.specs.declared.Field.{Field}
use Rattle.files.specs.declared.Reader.{Reader}
use Rattle.files.proofs.Clean.{clean_plan_same, clean_plans}
use Rattle.files.proofs.Ends.{plan_room}
use Rattle.files.proofs.Fields.{reader}
use Rattle.files.proofs.FileAnswers.{given}

-- ---- what an accepted end says

module _ (f : Field) (p : Plan) where
  -- a table's end that is accepted: the fields are good, and so is the table
  pub table_passed : table_ended f p ≡ Accepted → (ended_after f p.count ≡ Accepted) × (checked_tasks p.cores p.count (task_of p) ≡ Accepted)
  unfolding table_ended
  table_passed h =
      let b : (ended_after f p.count ≡ Accepted) × (cond (f.pieces || ltb 0 p.placed) (Refused (WrongTag (place_at f.end))) (checked_tasks p.cores p.count (task_of p)) ≡ Accepted) = both_accepted (ended_after f p.count) _ h in
      (b.0, checked (f.pieces || ltb 0 p.placed) b.1)
    where
      checked : (c : Bool) → cond c (Refused (WrongTag (place_at f.end))) (checked_tasks p.cores p.count (task_of p)) ≡ Accepted → checked_tasks p.cores p.count (task_of p) ≡ Accepted
      checked true q = accepted_not q
      checked false q = q

  -- a plan's end that is accepted: the fields are good, no piece spoils the shape, and the plan is good
  pub plan_passed : plan_ended f p ≡ Accepted → (ended_after f p.count ≡ Accepted) × ((f.misshapen ≡ false) × (checked_plan p ≡ Accepted))
  unfolding plan_ended
  plan_passed h =
      let b : (ended_after f p.count ≡ Accepted) × (cond f.misshapen (Refused NoPlanShape) (checked_plan p) ≡ Accepted) = both_accepted (ended_after f p.count) _ h in
      (b.0, shaped _ refl b.1)
    where
      shaped : (c : Bool) → f.misshapen ≡ c → cond c (Refused NoPlanShape) (checked_plan p) ≡ Accepted → (f.misshapen ≡ false) × (checked_plan p ≡ Accepted)
      shaped true e q = accepted_not q
      shaped false e q = (e, q)

-- ---- what is handed out

module _ (r : Reader) where
  -- a table that a reader hands out was accepted, and is what was read, cleaned
  pub table_out : (t : Table) → table_closed r ≡ Ok t → (table_ended r.field r.plan ≡ Accepted) × (table_of (clean_plan r.plan) ≡ t)
  unfolding table_closed
  table_out t h = given (table_ended r.field r.plan) (table_of (clean_plan r.plan)) t h

  -- and so is a plan
  pub plan_out : (p : Plan) → plan_closed r ≡ Ok p → (plan_ended r.field r.plan ≡ Accepted) × (clean_plan r.plan ≡ p)
  unfolding plan_closed
  plan_out p h = given (plan_ended r.field r.plan) (clean_plan r.plan) p h

  -- the table that a reader hands out is 0 past its count
  pub table_out_clean : (t : Table) → table_closed r ≡ Ok t → CleanTable t
  table_out_clean t h = rw (← (table_out t h).1) (record { tasks = λ i l. padded_out 64 no_task r.plan.count (task_of r.plan) i l })

  -- the plan that a reader hands out is 0 past its counts
  pub plan_out_clean : (p : Plan) → plan_closed r ≡ Ok p → CleanPlan p
  plan_out_clean p h = rw (← (plan_out p h).1) (record { tasks = λ i l. padded_out 64 no_task r.plan.count (task_of r.plan) i l; pieces = λ j l. padded_out 128 no_piece r.plan.placed (piece_of r.plan) j l })

  -- a table that a reader hands out is good
  pub table_out_good : (t : Table) → table_closed r ≡ Ok t → checked_table t ≡ Accepted
  table_out_good t h =
      let good : checked_tasks r.plan.cores r.plan.count (task_of r.plan) ≡ Accepted = (table_passed r.field r.plan (table_out t h).0).1 in
      let few : r.plan.count ≤ 64 = (accepted_good r.plan.cores r.plan.count (task_of r.plan) good).tasks.1 in
      rw (← (table_out t h).1) (tasks_same r.plan.cores r.plan.count (task_of (clean_plan r.plan)) (task_of r.plan) (λ i l. padded_in 64 no_task r.plan.count (task_of r.plan) i l (omega arith)) ∙ good)

  -- a plan that a reader hands out is good
  pub plan_out_good : (p : Plan) → plan_closed r ≡ Ok p → checked_plan p ≡ Accepted
  plan_out_good p h =
      let good : checked_plan r.plan ≡ Accepted = (plan_passed r.field r.plan (plan_out p h).0).1.1 in
      let room : (r.plan.count ≤ 64) × (r.plan.placed ≤ 128) = plan_room r.plan Accepted (sym good) in
      rw (← (plan_out p h).1) (sym (checked_same r.plan (clean_plan r.plan) (clean_plan_same r.plan room.0 room.1)) ∙ good)

  -- a plan's reader, or one with pieces in it, is no table's: behind good fields it is refused with 2 at the end of the tasks
  pub piece_in_table : ended_after r.field r.plan.count ≡ Accepted → r.field.pieces || ltb 0 r.plan.placed ≡ true → Refuses (answer_of (table_closed r)) 2 (place r.field.end)
  unfolding table_closed table_ended
  piece_in_table h k = record { refusal = WrongTag (place_at r.field.end); answer = rw (h, k); numbered = refl; telling = refl }

-- ---- what is not read

module _ (f : Field) (a b : Plan) (same : SamePlan a b) where
  -- readers whose tables are the same are answered alike
  pub table_closed_same : table_closed (reader f a) ≡ table_closed (reader f b)
  unfolding table_closed table_ended
  table_closed_same = ap (λ (p : Plan). answered (table_ended f a) (table_of p)) (clean_plans a b same) ∙ rw (tasks_same a.cores a.count (task_of a) (task_of b) same.tasks, same.cores, same.count, same.placed)

  -- readers whose plans are the same are answered alike
  pub plan_closed_same : plan_closed (reader f a) ≡ plan_closed (reader f b)
  unfolding plan_closed plan_ended
  plan_closed_same = rw (clean_plans a b same, checked_same a b same, same.count)
