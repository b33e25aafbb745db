-- Records that agree up to their counts are written alike: what stands past a count is not read.
use mathlib.Core.Path.{◌≡◌, ap}
use mathlib.Core.List.{List}
use Prim.Native.Nat.{ℕ, ◌<◌}
use Rattle.tasks.proofs.Below.{row_same}
use Rattle.tasks.proofs.SameTables.{table_same}
use Rattle.tasks.specs.Tables.{SameTable, task_of as task_of_table}
use Rattle.tasks.specs.declared.Table.{Table}
use Rattle.tasks.specs.declared.Task.{Task}
use Rattle.plans.proofs.SamePlans.{checked_same}
use Rattle.plans.specs.Pieces.{task_of, piece_of, SamePlan}
use Rattle.plans.specs.declared.Plan.{Plan}
use Rattle.writing.specs.Fields.{task_field, piece_field, tasks_bytes, table_bytes, plan_bytes}
use Rattle.writing.specs.Writing.{table_written, table_filled, plan_written, plan_filled}

-- the same tasks have the same fields
tasks_bytes_same : (m n : ℕ) (ts us : ℕ → Task) → ((i : ℕ) → i < n → ts i ≡ us i) → tasks_bytes m n ts ≡ tasks_bytes m n us
unfolding tasks_bytes
tasks_bytes_same m n ts us h = rw (row_same n (λ i. task_field (ts i)) (λ i. task_field (us i)) (λ i l. ap task_field (h i l)))

module _ (a b : Table) (same : SameTable a b) where
  -- tables that are the same have the same file
  pub table_bytes_same : table_bytes a ≡ table_bytes b
  unfolding table_bytes
  table_bytes_same = rw (tasks_bytes_same a.cores a.count (task_of_table a) (task_of_table b) same.tasks, same.cores, same.count)

  -- they are written with the same answer
  pub table_written_same : (buffer : List ℕ) → table_written a buffer ≡ table_written b buffer
  unfolding table_written
  table_written_same buffer = rw (table_same a b same, table_bytes_same)

  -- and leave the same bytes
  pub table_filled_same : (buffer : List ℕ) → table_filled a buffer ≡ table_filled b buffer
  unfolding table_filled
  table_filled_same buffer = rw (table_same a b same, table_bytes_same)

module _ (a b : Plan) (same : SamePlan a b) where
  -- plans that are the same have the same file
  pub plan_bytes_same : plan_bytes a ≡ plan_bytes b
  unfolding plan_bytes
  plan_bytes_same = rw (tasks_bytes_same a.cores a.count (task_of a) (task_of b) same.tasks, row_same a.placed (λ j. piece_field (piece_of a j)) (λ j. piece_field (piece_of b j)) (λ j l. ap piece_field (same.pieces j l)), same.cores, same.count, same.placed)

  -- they are written with the same answer
  pub plan_written_same : (buffer : List ℕ) → plan_written a buffer ≡ plan_written b buffer
  unfolding plan_written
  plan_written_same buffer = rw (checked_same a b same, plan_bytes_same)

  -- and leave the same bytes
  pub plan_filled_same : (buffer : List ℕ) → plan_filled a buffer ≡ plan_filled b buffer
  unfolding plan_filled
  plan_filled_same buffer = rw (checked_same a b same, plan_bytes_same)
