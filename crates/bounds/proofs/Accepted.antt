-- What an accepted plan says of local deadlines, of its numbers, and of a bound that is asked.
use mathlib.Core.Path.{◌≡◌}
use Prim.Native.Nat.{ℕ, ◌+◌, ◌≤◌, ◌<◌}
use native.Mathlib.Omega.{arith}
use borrow.Author.Tests.{lt-ltb, le-ltb, leb-true}
use Rattle.tasks.proofs.Tables.{Ranges}
use Rattle.tasks.specs.Answers.{Accepted, Refused}
use Rattle.tasks.specs.declared.Refusal.{Refusal}
use Rattle.tasks.specs.declared.Refusal.TheVariants.{NoPlanShape}
use Rattle.tasks.specs.declared.Task.{Task}
use Rattle.plans.proofs.Shaped.{Fits}
use Rattle.std.specs.Prelude.{Ok, Err}
use Rattle.bounds.specs.Asking.{known, bound_asked}
use Rattle.bounds.specs.Bound.{local_deadline, bound}
use Rattle.bounds.specs.Leaves.{Moderate}
use Rattle.plans.specs.Pieces.{task_of, piece_of, earlier}
use Rattle.plans.specs.Shape.{checked_plan}
use Rattle.plans.specs.declared.Piece.{Piece}
use Rattle.plans.specs.declared.Plan.{Plan}
use Rattle.plans.proofs.InShape.{fits, earlier_within, tests, GoodPlan, accepted_plan}

-- what a piece's task costs before it, and the piece's local deadline, add up to the task's deadline
pub deadline_adds : (p : Plan) → checked_plan p ≡ Accepted → (j : ℕ) → j < p.placed → earlier (piece_of p) j + local_deadline (task_of p) (piece_of p) j ≡ (task_of p (piece_of p j).task.0).deadline
unfolding local_deadline
deadline_adds p h j l =
    let g : GoodPlan p = accepted_plan p h in
    let f : Fits p.cores p.count (task_of p) (piece_of p) p.placed j = fits p.cores p.count (task_of p) (piece_of p) p.placed g.shaped j l in
    omega (arith, earlier_within p.cores p.count (task_of p) (piece_of p) p.placed g.shaped j l, (g.table.values (piece_of p j).task.0 f.task).short)

-- a local deadline is at least 1
pub deadline_some : (p : Plan) → checked_plan p ≡ Accepted → (j : ℕ) → j < p.placed → 1 ≤ local_deadline (task_of p) (piece_of p) j
deadline_some p h j l =
    let g : GoodPlan p = accepted_plan p h in
    let f : Fits p.cores p.count (task_of p) (piece_of p) p.placed j = fits p.cores p.count (task_of p) (piece_of p) p.placed g.shaped j l in
    omega (arith, deadline_adds p h j l, earlier_within p.cores p.count (task_of p) (piece_of p) p.placed g.shaped j l, (g.table.values (piece_of p j).task.0 f.task).short, f.cost)

-- an accepted plan's numbers are moderate
pub plan_moderate : (p : Plan) → GoodPlan p → Moderate p
plan_moderate p g = record {
  few = leb-true _ _ (tests m n ts pc k g.shaped).1;
  owned = λ j h. omega (arith, (piece j h).task, g.table.tasks);
  positive = λ j h. omega (arith, (values j h).some, (values j h).short, (values j h).inside);
  fits = λ j h. omega (arith, earlier_within m n ts pc k g.shaped j h, (values j h).short, (values j h).inside);
  short = λ j h. omega (arith, (values j h).inside, (values j h).most);
  most = λ j h. (values j h).most;
}
  where
    m : ℕ
    m = p.cores

    n : ℕ
    n = p.count

    k : ℕ
    k = p.placed

    ts : ℕ → Task
    ts = task_of p

    pc : ℕ → Piece
    pc = piece_of p

    piece : (j : ℕ) → j < k → Fits m n ts pc k j
    piece = fits m n ts pc k g.shaped

    values : (j : ℕ) → j < k → Ranges (ts (pc j).task.0)
    values j h = g.table.values (pc j).task.0 (piece j h).task

-- the bound asked from outside, by what the plan's check says and where the piece stands
module _ (p : Plan) (q : ℕ) where
  pub asked_refused : (r : Refusal) → checked_plan p ≡ Refused r → bound_asked p q ≡ Err r
  unfolding bound_asked
  asked_refused r h = rw h

  module _ (accepted : checked_plan p ≡ Accepted) where
    pub asked_past : p.placed ≤ q → bound_asked p q ≡ Err NoPlanShape
    unfolding bound_asked
    asked_past h = rw (accepted, le-ltb q p.placed h)

    pub asked_known : q < p.placed → bound_asked p q ≡ Ok (known (local_deadline (task_of p) (piece_of p) q) (bound (task_of p) (piece_of p) p.placed q))
    unfolding bound_asked
    asked_known h = rw (accepted, lt-ltb q p.placed h)
