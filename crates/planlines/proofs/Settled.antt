-- Each public contract settles where the text ends and the lent bytes.
use contract.Lifetimes.{Lfts}
use Rattle.tasks.proofs.Settling.{Lends, settled}
use Rattle.planlines.proofs.planned.Reads as planned
use Rattle.planlines.proofs.lister.Reads as lister

pub planned_settled : (κ : Lfts 2) → Lends (planned.Post κ) (λ e. e.0.now.end)
planned_settled κ x e f r s p q = settled p.end q.end

pub planned_bytes_settled : (κ : Lfts 2) → Lends (planned.Post κ) (λ e. e.0.now.bytes.now)
planned_bytes_settled κ x e f r s p q = settled p.bytes q.bytes

pub lister_settled : (κ : Lfts 2) → Lends (lister.Post κ) (λ e. e.0.now.end)
lister_settled κ x e f r s p q = settled p.end q.end

pub lister_bytes_settled : (κ : Lfts 2) → Lends (lister.Post κ) (λ e. e.0.now.bytes.now)
lister_bytes_settled κ x e f r s p q = settled p.bytes q.bytes
