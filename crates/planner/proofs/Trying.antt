-- The search for a core that takes a task whole: the test of one piece, and the one plan in which only the new piece changes.
use mathlib.Core.Path.{◌≡◌, refl, ◌∙◌}
use mathlib.Core.Bool.{Bool, true, false, not, ◌&&◌, ◌||◌}
use Prim.Native.Nat.{ℕ, ◌+◌, ◌<◌}
use lib.Dec.{leb, eqb}
use lib.ListN.{set}
use lib.Seq.{set-set}
use Rattle.tasks.proofs.Bools.{clash}
use Rattle.bounds.specs.Bound.{local_deadline, load, bound}
use Rattle.plans.specs.Pieces.{task_of, piece_of}
use Rattle.plans.specs.Shape.{is_share}
use Rattle.plans.specs.declared.Piece.{Piece}
use Rattle.plans.specs.declared.Plan.{Plan}
use Rattle.planner.specs.Asked.{OwnDeadlines}
use Rattle.planner.specs.Whole.{keeps_bound}

other : (share here keeps : Bool) → not share && here ≡ false → not here || share || keeps ≡ true
other true true k h = refl
other share false k h = refl
other false true k h = clash refl h

own : (share here keeps : Bool) → not share && here ≡ true → (share ≡ false) × (not here || share || keeps ≡ keeps)
own true here k h = clash h refl
own false true k h = (refl, refl)
own false false k h = clash h refl

module _ (v : Plan) (x q : ℕ) where
  -- a piece that is shared or on another core is not asked
  pub keeps_other : not (is_share (piece_of v q).kind) && eqb (piece_of v q).core.0 x ≡ false → keeps_bound v x q ≡ true
  keeps_other h = other (is_share (piece_of v q).kind) (eqb (piece_of v q).core.0 x) _ h

  -- a whole piece on the core keeps its bound if its cost and load are within its task's deadline
  pub keeps_own : OwnDeadlines v → q < v.placed → not (is_share (piece_of v q).kind) && eqb (piece_of v q).core.0 x ≡ true → (d : ℕ) → d ≡ (task_of v (piece_of v q).task.0).deadline
      → keeps_bound v x q ≡ leb ((piece_of v q).cost + load (task_of v) (piece_of v) v.placed (piece_of v q) d) d
  unfolding bound
  keeps_own D l h d e =
      let u : (is_share (piece_of v q).kind ≡ false) × (keeps_bound v x q ≡ leb (bound (task_of v) (piece_of v) v.placed q) (local_deadline (task_of v) (piece_of v) q)) = own (is_share (piece_of v q).kind) (eqb (piece_of v q).core.0 x) _ h in
      u.1 ∙ rw (D q l u.0, e)

-- the plan w with z at a place
abbrev pub holding : Plan → ℕ → Piece → Plan
holding w at z = record { cores = w.cores; count = w.count; tasks = w.tasks; placed = w.placed; pieces = set w.pieces at z }

-- what stood there before does not matter
pub holding_last : (w : Plan) (at : ℕ) (y z : Piece) → holding (holding w at y) at z ≡ holding w at z
holding_last w at y z = rw (set-set w.pieces at y z)
