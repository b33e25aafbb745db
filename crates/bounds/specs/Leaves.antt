-- What the sums of a bound rest on: every piece costs at most its task's period, and all numbers are at most 1,000,000.
use Rattle.std.specs.Prelude.{List, ℕ, ◌≤◌, ◌<◌, length}
use Rattle.plans.specs.Pieces.{task_of, piece_of}
use Rattle.tasks.specs.declared.Task.{Task}
use Rattle.plans.specs.declared.Piece.{Piece}
use Rattle.plans.specs.declared.Plan.{Plan}

pub record Moderate (p : Plan) : Type 0 where
  pub few : p.placed ≤ 128
  pub owned : (j : ℕ) → j < p.placed → (piece_of p j).task.0 < 64
  pub positive : (j : ℕ) → j < p.placed → 0 < (task_of p (piece_of p j).task.0).period
  pub fits : (j : ℕ) → j < p.placed → (piece_of p j).cost ≤ (task_of p (piece_of p j).task.0).period
  pub short : (j : ℕ) → j < p.placed → (task_of p (piece_of p j).task.0).deadline ≤ 1000000
  pub most : (j : ℕ) → j < p.placed → (task_of p (piece_of p j).task.0).period ≤ 1000000

-- tasks and a list of pieces as a plan, of which only these are asked
abbrev pub listed : List Task → List Piece → Plan
listed ts ys = record { cores = 0; count = 0; tasks = ts; placed = length ys; pieces = ys }
