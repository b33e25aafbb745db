-- Two tables that agree up to their counts get the same answer from the check.
use mathlib.Core.Path.{◌≡◌, ap, ◌∙◌}
use mathlib.Core.Bool.{not}
use Prim.Native.Nat.{ℕ, ◌<◌}
use Rattle.tasks.proofs.Below.{any_same, first_same}
use Rattle.tasks.specs.Tables.{task_of, values_fit, checked_tasks, checked_table, SameTable}
use Rattle.tasks.specs.declared.Table.{Table}
use Rattle.tasks.specs.declared.Task.{Task}

-- of n tasks only the first n are looked at
pub tasks_same : (m n : ℕ) (ts us : ℕ → Task) → ((i : ℕ) → i < n → ts i ≡ us i) → checked_tasks m n ts ≡ checked_tasks m n us
unfolding checked_tasks
tasks_same m n ts us h =
    rw (
      any_same n (λ i. not (values_fit (ts i))) (λ i. not (values_fit (us i))) (λ i l. ap (λ (t : Task). not (values_fit t)) (h i l)),
      first_same n (λ i. not (values_fit (ts i))) (λ i. not (values_fit (us i))) (λ i l. ap (λ (t : Task). not (values_fit t)) (h i l)),
    )

-- tables that are the same get the same answer
pub table_same : (a b : Table) → SameTable a b → checked_table a ≡ checked_table b
table_same a b e = tasks_same a.cores a.count (task_of a) (task_of b) e.tasks ∙ rw (e.cores, e.count)
