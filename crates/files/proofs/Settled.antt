-- The public contract settles its result.
use contract.Lifetimes.{Lfts}
use Rattle.tasks.proofs.Settling.{Settles, settled}
use Rattle.files.proofs.feed.Reads as feed
use Rattle.files.proofs.start_table.Reads as start-table
use Rattle.files.proofs.start_plan.Reads as start-plan
use Rattle.files.proofs.close_table.Reads as close-table
use Rattle.files.proofs.close_plan.Reads as close-plan
use Rattle.files.proofs.read_table.Reads as read_table
use Rattle.files.proofs.read_plan.Reads as read-plan

pub feed_settled : (κ : Lfts 1) → Settles (feed.Post κ)
feed_settled κ x e r s p q = settled p q

pub start_table_settled : Settles (start-table.Post tt)
start_table_settled x e r s p q = settled p q

pub start_plan_settled : Settles (start-plan.Post tt)
start_plan_settled x e r s p q = settled p q

pub close_table_settled : Settles (close-table.Post tt)
close_table_settled x e r s p q = settled p q

pub close_plan_settled : Settles (close-plan.Post tt)
close_plan_settled x e r s p q = settled p q

pub read_table_settled : (κ : Lfts 1) → Settles (read_table.Post κ)
read_table_settled κ x e r s p q = settled p q

pub read_plan_settled : (κ : Lfts 1) → Settles (read-plan.Post κ)
read_plan_settled κ x e r s p q = settled p q
