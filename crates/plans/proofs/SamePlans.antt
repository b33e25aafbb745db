-- Two plans that agree up to their counts get the same answer from the check.
use mathlib.Core.Path.{◌≡◌, ap}
use mathlib.Core.Bool.{not, ◌&&◌, cond}
use Prim.Native.Nat.{ℕ, zero, suc, ◌-◌, ◌≤◌, ◌<◌}
use native.Mathlib.Decide.{dec_lt}
use native.Mathlib.Omega.{arith}
use lib.Dec.{ltb, eqb}
use borrow.Author.Tests.{lt-leb, le-ltb}
use Rattle.tasks.specs.declared.Task.{Task}
use Rattle.tasks.proofs.Below.{all_same, sum_same}
use Rattle.tasks.proofs.SameTables.{tasks_same}
use Rattle.plans.specs.Pieces.{task_of, piece_of, costs, SamePlan}
use Rattle.plans.specs.Shape.{same_task, in_order, is_last, piece_fits, shape, checked_plan}
use Rattle.plans.specs.declared.Piece.{Piece}
use Rattle.plans.specs.declared.Plan.{Plan}

-- ---- pieces: n of them agree
module _ (pc qc : ℕ → Piece) (n : ℕ) (same : (j : ℕ) → j < n → pc j ≡ qc j) where
  pub last_same : (j : ℕ) → j < n → is_last pc n j ≡ is_last qc n j
  unfolding is_last
  last_same j l = go (dec_lt (suc j) n)
    where
      go : Dec (suc j < n) → not (ltb (suc j) n && same_task (pc j) (pc (suc j))) ≡ not (ltb (suc j) n && same_task (qc j) (qc (suc j)))
      go (yes b) = rw (same j l, same (suc j) b)
      go (no b) = rw (le-ltb (suc j) n (omega arith))

  pub order_same : (j : ℕ) → j < n → in_order pc j ≡ in_order qc j
  unfolding in_order
  order_same zero l = rw (same 0 l)
  order_same (suc j) l = rw (same j (omega arith), same (suc j) l)

  pub costs_same : (i j : ℕ) → j ≤ n → costs pc i j ≡ costs qc i j
  unfolding costs
  costs_same i j l = sum_same j _ _ (λ k b. ap (λ (z : Piece). cond (eqb z.task.0 i) z.cost 0) (same k (omega arith)))

  module _ (m count : ℕ) (ts us : ℕ → Task) (tasks : (i : ℕ) → i < count → ts i ≡ us i) where
    fits_same : (j : ℕ) → j < n → piece_fits m count ts pc n j ≡ piece_fits m count us qc n j
    unfolding piece_fits
    fits_same j l = go (dec_lt (qc j).task.0 count)
      where
        go : Dec ((qc j).task.0 < count) → piece_fits m count ts pc n j ≡ piece_fits m count us qc n j
        go (yes b) = rw (order_same j l, last_same j l, same j l, costs_same (qc j).task.0 (suc j) l, tasks (qc j).task.0 b)
        go (no b) = rw (same j l, le-ltb (qc j).task.0 count (omega arith))

    pub shape_same : shape m count ts pc n ≡ shape m count us qc n
    unfolding shape
    shape_same = go (dec_lt 0 n)
      where
        go : Dec (0 < n) → shape m count ts pc n ≡ shape m count us qc n
        go (yes b) = rw (all_same n (piece_fits m count ts pc n) (piece_fits m count us qc n) fits_same, same (n - 1) (omega arith))
        go (no b) = rw (lt-leb 1 n (omega arith))

-- ---- plans
pub checked_same : (a b : Plan) → SamePlan a b → checked_plan a ≡ checked_plan b
unfolding checked_plan
checked_same a b e =
    rw (
      tasks_same a.cores a.count (task_of a) (task_of b) e.tasks,
      shape_same (piece_of a) (piece_of b) a.placed e.pieces a.cores a.count (task_of a) (task_of b) e.tasks,
      e.cores,
      e.count,
      e.placed,
    )
