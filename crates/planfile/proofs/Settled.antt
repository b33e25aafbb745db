-- The public contract settles its result and the lent bytes.
use contract.Lifetimes.{Lfts}
use Rattle.tasks.proofs.Settling.{Settles, Lends, settled}
use Rattle.planfile.proofs.plan_file.Reads as plan-file

pub plan_file_settled : (κ : Lfts 1) → Settles (plan-file.Post κ)
plan_file_settled κ x e r s p q = settled p.0 q.0

pub plan_file_bytes_settled : (κ : Lfts 1) → Lends (plan-file.Post κ) (λ e. e.1.0.now)
plan_file_bytes_settled κ x e f r s p q = settled p.1 q.1
