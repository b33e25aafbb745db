-- Each public contract settles its result.
use Rattle.tasks.proofs.Settling.{Settles, settled}
use Rattle.tasks.proofs.TaskNo.index.Reads as task-index
use Rattle.tasks.proofs.CoreNo.index.Reads as core-index
use Rattle.tasks.proofs.further.Reads as further
use Rattle.tasks.proofs.values_fit.Reads as values_fit_lem
use Rattle.tasks.proofs.check_tasks.Reads as check-tasks
use Rattle.tasks.proofs.check_table.Reads as check-table

pub task_index_settled : Settles (task-index.Post tt)
task_index_settled x e r s p q = settled p.0 q.0

pub core_index_settled : Settles (core-index.Post tt)
core_index_settled x e r s p q = settled p.0 q.0

pub further_settled : Settles (further.Post tt)
further_settled x e r s p q = settled p q

pub values_fit_settled : Settles (values_fit_lem.Post tt)
values_fit_settled x e r s p q = settled p q

pub check_tasks_settled : Settles (check-tasks.Post tt)
check_tasks_settled x e r s p q = settled p q

pub check_table_settled : Settles (check-table.Post tt)
check_table_settled x e r s p q = settled p q
