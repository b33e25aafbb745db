-- What the searches for a place ask of a plan that is being laid out, when it is task i's turn.
use Rattle.std.specs.Prelude.{◌≡◌, false, cond, ℕ, ◌≤◌, ◌<◌, ltb, Option, Some, None}
use Rattle.tasks.specs.Tables.{core_no}
use Rattle.tasks.specs.declared.CoreNo.{CoreNo}
use Rattle.bounds.specs.Bound.{local_deadline}
use Rattle.bounds.specs.Leaves.{Moderate}
use Rattle.plans.specs.Pieces.{task_of, piece_of}
use Rattle.plans.specs.Shape.{is_share}
use Rattle.plans.specs.declared.Plan.{Plan}
use Rattle.planner.specs.Whole.{put, whole_piece}

pub record Ready (w : Plan) (i : ℕ) : Type 0 where
  pub moderate : Moderate w
  pub known : i < 64
  pub some : 0 < (task_of w i).cost
  pub fits : (task_of w i).cost ≤ (task_of w i).period
  pub short : (task_of w i).deadline ≤ 1000000
  pub most : (task_of w i).period ≤ 1000000
  pub cores : w.cores ≤ 16

-- each whole piece has its task's deadline for its local deadline
abbrev pub OwnDeadlines : Plan → Type 0
OwnDeadlines w = (q : ℕ) → q < w.placed → is_share (piece_of w q).kind ≡ false → local_deadline (task_of w) (piece_of w) q ≡ (task_of w (piece_of w q).task.0).deadline

-- and still has it with task i added whole on any core
abbrev pub Alone : Plan → ℕ → Type 0
Alone w i = (x : ℕ) → OwnDeadlines (put (whole_piece w i x) w)

-- the lowest of m cores that takes a task whole, x being m where none does
abbrev pub taker : ℕ → ℕ → Option CoreNo
taker m x = cond (ltb x m) (Some (core_no x)) None
