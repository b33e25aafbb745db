-- The tasks and pieces of a plan by their number, and two plans that are the same.
-- What is said of pieces is said of a function that gives the piece at a place: a plan's list, a lent list and a list with one more are all of this form.
use Rattle.std.specs.Prelude.{◌≡◌, cond, ℕ, ◌≤◌, ◌<◌, eqb, get_or}
use Rattle.tasks.specs.Below.{sum}
use Rattle.tasks.specs.Tables.{no_task, task_no, core_no}
use Rattle.tasks.specs.declared.Task.{Task}
use Rattle.plans.specs.declared.Kind.TheVariants.{Whole}
use Rattle.plans.specs.declared.Piece.{Piece}
use Rattle.plans.specs.declared.Plan.{Plan}

abbrev pub no_piece : Piece
no_piece = record { task = task_no 0; core = core_no 0; kind = Whole; cost = 0 }

abbrev pub task_of : Plan → ℕ → Task
task_of p i = get_or p.tasks i no_task

abbrev pub piece_of : Plan → ℕ → Piece
piece_of p j = get_or p.pieces j no_piece

-- the costs of task i's pieces among the first j
unfoldable pub costs : (ℕ → Piece) → ℕ → ℕ → ℕ
costs pc i j = sum j (λ k. cond (eqb (pc k).task.0 i) (pc k).cost 0)

-- the costs of the same task's earlier pieces
abbrev pub earlier : (ℕ → Piece) → ℕ → ℕ
earlier pc q = costs pc (pc q).task.0 q

-- two plans are the same if they agree up to their counts
pub record SamePlan (a b : Plan) : Type 0 where
  pub cores : a.cores ≡ b.cores
  pub count : a.count ≡ b.count
  pub tasks : (i : ℕ) → i < a.count → task_of a i ≡ task_of b i
  pub placed : a.placed ≡ b.placed
  pub pieces : (j : ℕ) → j < a.placed → piece_of a j ≡ piece_of b j

-- in a plan that we make the entries past the counts are 0
pub record CleanPlan (p : Plan) : Type 0 where
  pub tasks : (i : ℕ) → p.count ≤ i → task_of p i ≡ no_task
  pub pieces : (j : ℕ) → p.placed ≤ j → piece_of p j ≡ no_piece
