-- Tasks that agree up to their count, and the costs of a plan of good shape, which fit four bytes.
use mathlib.Core.Path.{◌≡◌}
use Prim.Native.Nat.{ℕ, ◌<◌}
use native.Mathlib.Omega.{arith}
use Rattle.tasks.proofs.Tables.{Ranges, GoodTable}
use Rattle.tasks.specs.declared.Task.{Task}
use Rattle.plans.proofs.InShape.{GoodPlan, fits, earlier_within}
use Rattle.plans.specs.Pieces.{task_of, piece_of}
use Rattle.plans.specs.declared.Plan.{Plan}

-- tasks that agree up to their count are as good
pub tasks_same : (m n : ℕ) (ts us : ℕ → Task) → ((i : ℕ) → i < n → ts i ≡ us i) → GoodTable m n ts → GoodTable m n us
tasks_same m n ts us h g = record { cores = g.cores; tasks = g.tasks; values = λ i l. rw (← h i l) (g.values i l) }

-- in a plan of good shape every cost fits four bytes
pub costs_fit : (p : Plan) → GoodPlan p → (j : ℕ) → j < p.placed → (piece_of p j).cost < 4294967296
costs_fit p g j l =
    let r : Ranges (task_of p (piece_of p j).task.0) = g.table.values (piece_of p j).task.0 (fits _ _ _ _ _ g.shaped j l).task in
    omega (arith, earlier_within p.cores p.count (task_of p) (piece_of p) p.placed g.shaped j l)
