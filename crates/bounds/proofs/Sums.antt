-- Loads, one piece more at a time, and that costs and loads stay small where the plan's numbers are a good table's.
use mathlib.Core.Path.{◌≡◌, refl, ◌∙◌}
use mathlib.Core.Bool.{Bool, true, false, cond}
use Prim.Native.Nat.{ℕ, ◌+◌, ◌-◌, ◌*◌, ◌≤◌, ◌<◌}
use native.Mathlib.Nat.{le_trans}
use native.Mathlib.Omega.{arith}
use lib.Dec.{eqb}
use Rattle.tasks.proofs.Below.{sum_turn, sum_most}
use Rattle.tasks.specs.Below.{sum}
use Rattle.tasks.specs.declared.Task.{Task}
use Rattle.plans.proofs.Interference.{within_length}
use Rattle.bounds.specs.Bound.{local_deadline, load}
use Rattle.plans.specs.Interference.{interference}
use Rattle.bounds.specs.Leaves.{Moderate}
use Rattle.plans.specs.Pieces.{task_of, piece_of, costs, earlier}
use Rattle.plans.specs.Rank.{above}
use Rattle.plans.specs.declared.Piece.{Piece}
use Rattle.plans.specs.declared.Plan.{Plan}

-- at most x, whether it is counted or not
counted : (b : Bool) {x most : ℕ} → x ≤ most → cond b x 0 ≤ most
counted true h = h
counted false h = omega arith

pub load_none : (ts : ℕ → Task) (pc : ℕ → Piece) (b : Piece) (L : ℕ) → load ts pc 0 b L ≡ 0
unfolding load sum
load_none ts pc b L = refl

pub load_turn : (ts : ℕ → Task) (pc : ℕ → Piece) (b : Piece) (L j acc r : ℕ) → acc ≡ load ts pc j b L
    → r ≡ cond (above ts (pc j) b) (interference (pc j).cost (ts (pc j).task.0).period L) 0 → acc + r ≡ load ts pc (j + 1) b L
unfolding load
load_turn ts pc b L j acc r = sum_turn j _ acc r

-- a deadline less what the earlier pieces cost is the local deadline
pub local_is : (p : Plan) (q i s d : ℕ) → i ≡ (piece_of p q).task.0 → s ≡ earlier (piece_of p) q → d ≡ (task_of p i).deadline - s → d ≡ local_deadline (task_of p) (piece_of p) q
unfolding local_deadline
local_is p q i s d e h k = k ∙ rw (e, h)

module _ (p : Plan) (M : Moderate p) where
  pub costs_small : (i j : ℕ) → j ≤ p.placed → costs (piece_of p) i j ≤ j * 1000000
  unfolding costs
  costs_small i j h = sum_most j 1000000 _ (λ k l. counted (eqb (piece_of p k).task.0 i) (le_trans (M.fits k (omega arith)) (M.most k (omega arith))))

  pub load_small : (b : Piece) (L j : ℕ) → L ≤ 1000000 → j ≤ p.placed → load (task_of p) (piece_of p) j b L ≤ j * 1000000
  unfolding load
  load_small b L j h k = sum_most j 1000000 _ (λ i l. counted (above (task_of p) (piece_of p i) b) (le_trans (within_length _ _ (M.positive i (omega arith)) (M.fits i (omega arith)) L) h))

  pub local_small : (q : ℕ) → q < p.placed → local_deadline (task_of p) (piece_of p) q ≤ 1000000
  unfolding local_deadline
  local_small q h = omega (arith, M.short q h)
