-- A table or a plan that its check accepts has room for its tasks and pieces.
use mathlib.Core.Path.{◌≡◌, sym}
use Prim.Native.Nat.{ℕ, ◌≤◌}
use borrow.Author.Tests.{leb-true}
use Rattle.std.specs.Prelude.{Ok, Err, IfOk}
use Rattle.tasks.proofs.Tables.{accepted_good}
use Rattle.tasks.specs.Answers.{Answer}
use Rattle.tasks.specs.Tables.{checked_tasks}
use Rattle.tasks.specs.declared.Task.{Task}
use Rattle.plans.proofs.InShape.{GoodPlan, accepted_plan, tests}
use Rattle.plans.specs.Shape.{checked_plan}
use Rattle.plans.specs.declared.Plan.{Plan}

pub table_room : (m n : ℕ) (ts : ℕ → Task) (a : Answer) → a ≡ checked_tasks m n ts → IfOk a (λ done. n ≤ 64)
table_room m n ts (Ok u) e = (accepted_good m n ts (sym e)).tasks.1
table_room m n ts (Err r) e = tt

pub plan_room : (p : Plan) (a : Answer) → a ≡ checked_plan p → IfOk a (λ done. (p.count ≤ 64) × (p.placed ≤ 128))
plan_room p (Ok u) e =
    let g : GoodPlan p = accepted_plan p (sym e) in
    (g.table.tasks.1, leb-true _ _ (tests _ _ _ _ _ g.shaped).1)
plan_room p (Err r) e = tt
