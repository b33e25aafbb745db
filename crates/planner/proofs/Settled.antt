-- Each public contract settles its result.
use Rattle.tasks.proofs.Settling.{Settles, settled}
use Rattle.planner.proofs.plan_table.Reads as plan-table

pub plan_table_settled : Settles (plan-table.Post tt)
plan_table_settled x e r s p q = settled p q
