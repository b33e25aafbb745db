-- How a bound is added up over a lent list: the pieces are added one after another.
use Rattle.std.specs.Prelude.{cond, List, ℕ, zero, suc, ◌+◌, ◌≤◌, ◌<◌, get_or}
use Rattle.tasks.specs.Tables.{no_task}
use Rattle.tasks.specs.declared.Task.{Task}
use Rattle.plans.specs.Interference.{interference}
use Rattle.plans.specs.Pieces.{no_piece}
use Rattle.plans.specs.Rank.{above}
use Rattle.plans.specs.declared.Piece.{Piece}
use Rattle.lending.specs.declared.Adding.{Adding}

-- the piece at place j of a lent list
abbrev pub lent_piece : List Piece → ℕ → Piece
lent_piece ys j = get_or ys j no_piece

-- what a and the first n pieces of a lent list, one after another, come to by f
abbrev pub up_to : {A : Type 0} → (A → Piece → A) → ℕ → A → List Piece → A
up_to f zero a ys = a
up_to f (suc n) a ys = f (up_to f n a ys) (lent_piece ys n)

abbrev pub task_in : Adding → ℕ → Task
task_in s i = get_or s.tasks i no_task

-- the interference of piece z on the piece asked for
unfoldable pub pressure_on : Adding → Piece → ℕ
pressure_on s z = cond (above (task_in s) z s.piece) (interference z.cost (task_in s z.task.0).period s.deadline) 0

-- the same with piece z added
unfoldable pub added : Adding → Piece → Adding
added s z = record { tasks = s.tasks; piece = s.piece; deadline = s.deadline; bound = s.bound + pressure_on s z }

-- what the addition of piece z rests on: the numbers are a good table's, and the sum has room
pub record Bearable (s : Adding) (z : Piece) : Type 0 where
  pub own : z.task.0 < 64
  pub asked : s.piece.task.0 < 64
  pub positive : 0 < (task_in s z.task.0).period
  pub fits : z.cost ≤ (task_in s z.task.0).period
  pub most : (task_in s z.task.0).period ≤ 1000000
  pub near : s.deadline ≤ 1000000
  pub room : s.bound + pressure_on s z < 4294967296
