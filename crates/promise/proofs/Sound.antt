-- A plan that is accepted has good shape, as the promise sees it.
use mathlib.Core.Path.{◌≡◌, refl}
use mathlib.Core.Bool.{true, false}
use Prim.Native.Nat.{ℕ, suc, ◌+◌, ◌≤◌, ◌<◌}
use native.Mathlib.Omega.{arith}
use borrow.Author.Tests.{eq-eqb}
use Rattle.tasks.proofs.Below.{first_le}
use Rattle.plans.proofs.InShape.{GoodPlan, fits, follower, earlier_within, Begins, begins}
use Rattle.plans.proofs.Shaped.{Fits}
use Rattle.plans.proofs.Costs.{costs_own}
use Rattle.plans.specs.Pieces.{task_of, piece_of, costs}
use Rattle.plans.specs.Shape.{is_last}
use Rattle.plans.specs.declared.Plan.{Plan}
use Rattle.dispatch.specs.Rules.{first_piece}
use Rattle.schedules.specs.Model.{Sound}
use Rattle.promise.specs.View.{model_of}

module _ (p : Plan) (c : GoodPlan p) where
  pub piece_fits_lem : (j : ℕ) → j < p.placed → Fits p.cores p.count (task_of p) (piece_of p) p.placed j
  piece_fits_lem = fits p.cores p.count (task_of p) (piece_of p) p.placed c.shaped

  pub next_piece : (j : ℕ) → j < p.placed → is_last (piece_of p) p.placed j ≡ false → (suc j < p.placed) × ((piece_of p (suc j)).task.0 ≡ (piece_of p j).task.0) × ((piece_of p j).core.0 < (piece_of p (suc j)).core.0)
  next_piece = follower p.cores p.count (task_of p) (piece_of p) p.placed c.shaped

  -- the costs up to a piece are within its task's cost
  pub within_cost : (j : ℕ) → j < p.placed → (model_of p).off j + (piece_of p j).cost ≤ (task_of p (piece_of p j).task.0).cost
  within_cost = earlier_within p.cores p.count (task_of p) (piece_of p) p.placed c.shaped

  -- the costs up to a last piece are the task's cost
  pub full_cost : (j : ℕ) → j < p.placed → is_last (piece_of p) p.placed j ≡ true → (model_of p).off j + (piece_of p j).cost ≡ (task_of p (piece_of p j).task.0).cost
  full_cost j h z = omega (arith, costs_own (piece_of p) j, (piece_fits_lem j h).full z)

  pub first_piece_lem : (i : ℕ) → i < p.count → (first_piece p i < p.placed) × ((piece_of p (first_piece p i)).task.0 ≡ i) × (costs (piece_of p) i (first_piece p i) ≡ 0)
  unfolding first_piece
  first_piece_lem i h =
      let b : Begins p.cores p.count (task_of p) (piece_of p) p.placed c.shaped i = begins p.cores p.count (task_of p) (piece_of p) p.placed c.shaped i h in
      (b.known, b.own, b.none)

  -- the plan shape is good shape
  pub sound : Sound (model_of p)
  unfolding first_piece
  sound = record {
    some = λ j h. (piece_fits_lem j h).cost;
    inside = λ j h. omega (arith, within_cost j h, c.table.values _ (piece_fits_lem j h).task);
    next = next;
    begins = λ i h. let b : (first_piece p i < p.placed) × ((piece_of p (first_piece p i)).task.0 ≡ i) × (costs (piece_of p) i (first_piece p i) ≡ 0) = first_piece_lem i h in (b.0, b.1, rw b.1 b.2);
    owned = λ j h. (piece_fits_lem j h).task;
    leads = leads;
  }
    where
      next : (j : ℕ) → j < p.placed → is_last (piece_of p) p.placed j ≡ false → (suc j < p.placed) × ((piece_of p (suc j)).task.0 ≡ (piece_of p j).task.0) × ((model_of p).off (suc j) ≡ (model_of p).off j + (piece_of p j).cost)
      next j h z =
          let f : (suc j < p.placed) × ((piece_of p (suc j)).task.0 ≡ (piece_of p j).task.0) × ((piece_of p j).core.0 < (piece_of p (suc j)).core.0) = next_piece j h z in
          (f.0, f.1, rw f.1 (costs_own (piece_of p) j))

      leads : (j : ℕ) → j < p.placed → first_piece p (piece_of p j).task.0 ≤ j
      leads j h = first_le p.placed _ j h (eq-eqb (piece_of p j).task.0 _ refl)
