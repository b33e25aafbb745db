-- Good tables: the ranges of document 01, and which refusal a record that leaves them gets.
use Rattle.std.specs.Prelude.{Bool, ◌&&◌, not, cond, ◌≡◌, ℕ, ◌≤◌, ◌<◌, leb, get_or}
use Rattle.tasks.specs.Below.{any, first}
use Rattle.tasks.specs.Answers.{Answer, Accepted, Refused}
use Rattle.tasks.specs.declared.Refusal.TheVariants.{CoresGiven, TasksGiven, ValuesOf}
use Rattle.tasks.specs.declared.Task.{Task}
use Rattle.tasks.specs.declared.TaskNo.{TaskNo}
use Rattle.tasks.specs.declared.CoreNo.{CoreNo}
use Rattle.tasks.specs.declared.Table.{Table}

abbrev pub task_no : ℕ → TaskNo
task_no i = record { 0 = i }

abbrev pub core_no : ℕ → CoreNo
core_no x = record { 0 = x }

abbrev pub no_task : Task
no_task = record { cost = 0; deadline = 0; period = 0 }

abbrev pub task_of : Table → ℕ → Task
task_of t i = get_or t.tasks i no_task

-- cores m: 1 to 16
abbrev pub cores_fit : ℕ → Bool
cores_fit m = leb 1 m && leb m 16

-- tasks n: 1 to 64
abbrev pub tasks_fit : ℕ → Bool
tasks_fit n = leb 1 n && leb n 64

-- 1 ≤ c ≤ d ≤ p ≤ 1,000,000
abbrev pub values_fit : Task → Bool
values_fit t = leb 1 t.cost && leb t.cost t.deadline && leb t.deadline t.period && leb t.period 1000000

-- what is checked first decides
abbrev pub and_then : Answer → Answer → Answer
and_then (Refused r) c = Refused r
and_then Accepted c = c

-- for a record the order is 4, which tells the count given, 6, which tells the number of tasks given, and 5, which tells the first bad task
unfoldable pub checked_tasks : ℕ → ℕ → (ℕ → Task) → Answer
checked_tasks m n ts =
    let bad : ℕ → Bool = λ i. not (values_fit (ts i)) in
    cond (not (cores_fit m)) (Refused (CoresGiven m))
    (cond (not (tasks_fit n)) (Refused (TasksGiven n))
    (cond (any n bad) (Refused (ValuesOf (task_no (first n bad)))) Accepted))

abbrev pub checked_table : Table → Answer
checked_table t = checked_tasks t.cores t.count (task_of t)

-- two tables are the same if they agree up to their counts
pub record SameTable (a b : Table) : Type 0 where
  pub cores : a.cores ≡ b.cores
  pub count : a.count ≡ b.count
  pub tasks : (i : ℕ) → i < a.count → task_of a i ≡ task_of b i

-- in a table that we make the entries past the count are 0
pub record CleanTable (t : Table) : Type 0 where
  pub tasks : (i : ℕ) → t.count ≤ i → task_of t i ≡ no_task
