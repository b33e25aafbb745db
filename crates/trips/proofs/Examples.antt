-- Document 01's file for two cores and one task (6,10,10), and files at the edges of its ranges.
use mathlib.Core.Path.{◌≡◌, refl}
use mathlib.Core.List.{List, [], ◌∷◌, ◌++◌}
use Prim.Native.Nat.{ℕ}
use lib.ListN.{replicate}
use Rattle.std.specs.Prelude.{Ok, Err}
use Rattle.tasks.specs.Below.{all, any, padded, row, sum, tabulate}
use Rattle.tasks.specs.Tables.{no_task, checked_tasks}
use Rattle.tasks.specs.Answers.{Accepted}
use Rattle.tasks.specs.declared.Refusal.TheVariants.{CutShort, WrongTag, WrongLength, CoresAt, ValuesAt, TasksAt, NoPlanShape}
use Rattle.tasks.specs.declared.Table.{Table}
use Rattle.plans.specs.Pieces.{costs}
use Rattle.plans.specs.Shape.{follows, in_order, is_last, piece_fits, shape, checked_plan}
use Rattle.writing.specs.Fields.{table_bytes, tasks_bytes, core_field, task_field}
use Rattle.tasks.specs.Places.{place_at, further}
use Rattle.files.specs.Grammar.{answer_of, refusal, values_fault}
use Rattle.files.specs.Fields.{read, step, verdict, hold, tag_fits, piece_taken, next_field, added}
use Rattle.files.specs.Reading.{ended, table_ended, table_closed, plan_ended, plan_closed}
use Rattle.files.specs.Files.{table_read, plan_read}
use Rattle.files.specs.declared.Default.TheVariants.{Four, Eight}

abbrev example : List ℕ
example = 1 ∷ 0 ∷ 1 ∷ 2 ∷ 2 ∷ 0 ∷ 12 ∷ 0 ∷ 0 ∷ 0 ∷ 6 ∷ 0 ∷ 0 ∷ 0 ∷ 10 ∷ 0 ∷ 0 ∷ 0 ∷ 10 ∷ []

abbrev table : Table
table = record { cores = 2; count = 1; tasks = record { cost = 6; deadline = 10; period = 10 } ∷ replicate 63 no_task }

-- n tasks (1,1,p)
abbrev tasks : ℕ → ℕ → List ℕ
tasks n p = row n (λ i. task_field (record { cost = 1; deadline = 1; period = p }))

-- task 0's piece of this kind on core 0
abbrev piece : ℕ → List ℕ
piece k = 3 ∷ 0 ∷ 7 ∷ 0 ∷ 0 ∷ k ∷ 0 ∷ 0 ∷ 0 ∷ 1 ∷ []

pub record SmallFiles : Type 0 where
  pub written : table_bytes table ≡ example
  pub read_back : table_read Eight example ≡ Ok table
  pub no_task_lem : table_read Eight [] ≡ Err (TasksAt (place_at 0))
  pub short_tail : table_read Eight (example ++ (9 ∷ 9 ∷ [])) ≡ Err (CutShort (place_at 19))
  pub second_count : table_read Eight (example ++ (1 ∷ 0 ∷ 1 ∷ [])) ≡ Err (WrongTag (place_at 19))
  pub wrong_length : table_read Eight (2 ∷ 0 ∷ 13 ∷ []) ≡ Err (WrongLength (place_at 0))
  pub many_cores : table_read Eight (1 ∷ 0 ∷ 1 ∷ 17 ∷ 7 ∷ []) ≡ Err (CoresAt (place_at 0))
  pub most_tasks : answer_of (table_read Eight (tasks 64 1000000)) ≡ Accepted
  pub many_tasks : table_read Eight (tasks 65 1000000) ≡ Err (TasksAt (place_at 960))
  pub table_piece : table_read Eight (example ++ piece 0) ≡ Err (WrongTag (place_at 19))
  pub only_piece : plan_read Eight (piece 0) ≡ Err (TasksAt (place_at 0))
  pub late_task : plan_read Eight (tasks 1 9 ++ (piece 0 ++ tasks 1 9)) ≡ Err (WrongTag (place_at 25))
  pub bad_kind : plan_read Eight (tasks 1 9 ++ piece 2) ≡ Err NoPlanShape
  pub long_period : table_read Eight (tasks 1 1000001) ≡ Err (ValuesAt (place_at 0))

pub small_files : SmallFiles
unfolding table_bytes tasks_bytes core_field task_field row table_read table_closed table_ended checked_tasks any padded tabulate plan_read plan_closed plan_ended read step verdict hold tag_fits values_fault piece_taken next_field added further ended refusal
small_files = record { written = refl; read_back = refl; no_task_lem = refl; short_tail = refl; second_count = refl; wrong_length = refl; many_cores = refl; most_tasks = refl; many_tasks = refl; table_piece = refl; only_piece = refl; late_task = refl; bad_kind = refl; long_period = refl }

-- ---- files that do not name their core count

-- a plan of one task, whole on the fifth core
abbrev fifth : List ℕ
fifth = tasks 1 9 ++ (3 ∷ 0 ∷ 7 ∷ 0 ∷ 4 ∷ 0 ∷ 0 ∷ 0 ∷ 0 ∷ 1 ∷ [])

pub record Unnamed : Type 0 where
  pub four_meant : table_read Four (tasks 1 9) ≡ Ok (record { cores = 4; count = 1; tasks = record { cost = 1; deadline = 1; period = 9 } ∷ replicate 63 no_task })
  pub eight_meant : table_read Eight (tasks 1 9) ≡ Ok (record { cores = 8; count = 1; tasks = record { cost = 1; deadline = 1; period = 9 } ∷ replicate 63 no_task })
  pub not_of_four : plan_read Four fifth ≡ Err NoPlanShape
  pub of_eight : answer_of (plan_read Eight fifth) ≡ Accepted

pub unnamed : Unnamed
unfolding task_field row table_read table_closed table_ended checked_tasks padded tabulate any all sum costs follows in_order is_last piece_fits shape checked_plan plan_read plan_closed plan_ended read step verdict hold tag_fits values_fault piece_taken next_field added further ended refusal
unnamed = record { four_meant = refl; eight_meant = refl; not_of_four = refl; of_eight = refl }
