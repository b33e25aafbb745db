-- Each public contract settles its result and the lent bytes.
use contract.Lifetimes.{Lfts}
use Rattle.tasks.proofs.Settling.{Settles, Lends, settled}
use Rattle.writing.proofs.write_table.Reads as write-table
use Rattle.writing.proofs.write_plan.Reads as write-plan

-- two answers of a writer, and two states of the lent buffer
pub write_table_settled : (κ : Lfts 1) → Settles (write-table.Post κ)
write_table_settled κ x e r s p q = settled p.0 q.0

pub write_plan_settled : (κ : Lfts 1) → Settles (write-plan.Post κ)
write_plan_settled κ x e r s p q = settled p.0 q.0

pub table_bytes_settled : (κ : Lfts 1) → Lends (write-table.Post κ) (λ e. e.1.0.now)
table_bytes_settled κ x e f r s p q = settled p.1 q.1

pub plan_bytes_settled : (κ : Lfts 1) → Lends (write-plan.Post κ) (λ e. e.1.0.now)
plan_bytes_settled κ x e f r s p q = settled p.1 q.1
