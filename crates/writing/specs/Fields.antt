-- Files are fields in a row: tag (one byte), length (two bytes), body. All numbers are high byte first.
use Rattle.std.specs.Prelude.{List, [], ◌∷◌, ◌++◌, ℕ, ◌/◌, ◌%◌}
use Rattle.tasks.specs.Below.{row}
use Rattle.tasks.specs.Tables.{task_of as task_of_table}
use Rattle.tasks.specs.declared.Task.{Task}
use Rattle.tasks.specs.declared.Table.{Table}
use Rattle.plans.specs.Pieces.{task_of, piece_of}
use Rattle.plans.specs.declared.Kind.{Kind}
use Rattle.plans.specs.declared.Kind.TheVariants.{Whole, Share}
use Rattle.plans.specs.declared.Piece.{Piece}
use Rattle.plans.specs.declared.Plan.{Plan}

-- the four bytes of a number
abbrev pub bytes4 : ℕ → List ℕ
bytes4 x = x / 16777216 % 256 ∷ x / 65536 % 256 ∷ x / 256 % 256 ∷ x % 256 ∷ []

-- kind: 0 whole, 1 share
abbrev pub kind_byte : Kind → ℕ
kind_byte Whole = 0
kind_byte Share = 1

-- tag 1, length 1: core count
unfoldable pub core_field : ℕ → List ℕ
core_field m = 1 ∷ 0 ∷ 1 ∷ m ∷ []

-- tag 2, length 12: a task; c, d, p of four bytes each
unfoldable pub task_field : Task → List ℕ
task_field t = 2 ∷ 0 ∷ 12 ∷ (bytes4 t.cost ++ (bytes4 t.deadline ++ bytes4 t.period))

-- tag 3, length 7: a piece; task, core, kind, cost of four bytes
unfoldable pub piece_field : Piece → List ℕ
piece_field z = 3 ∷ 0 ∷ 7 ∷ z.task.0 ∷ z.core.0 ∷ kind_byte z.kind ∷ bytes4 z.cost

-- the core count and n tasks
unfoldable pub tasks_bytes : ℕ → ℕ → (ℕ → Task) → List ℕ
tasks_bytes m n ts = core_field m ++ row n (λ i. task_field (ts i))

-- the file of a table
unfoldable pub table_bytes : Table → List ℕ
table_bytes t = tasks_bytes t.cores t.count (task_of_table t)

-- the file of a plan
unfoldable pub plan_bytes : Plan → List ℕ
plan_bytes p = tasks_bytes p.cores p.count (task_of p) ++ row p.placed (λ j. piece_field (piece_of p j))
