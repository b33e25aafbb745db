-- Each public contract settles where the text ends and the lent bytes.
use contract.Lifetimes.{Lfts}
use Rattle.tasks.proofs.Settling.{Lends, settled}
use Rattle.ticklines.proofs.ran.Reads as ran
use Rattle.ticklines.proofs.ticked.Reads as ticked
use Rattle.ticklines.proofs.totals.Reads as totals
use Rattle.ticklines.proofs.runner.Reads as runner
use Rattle.ticklines.proofs.watched.Reads as watched

pub ran_settled : (κ : Lfts 2) → Lends (ran.Post κ) (λ e. e.0.now.end)
ran_settled κ x e f r s p q = settled p.end q.end

pub ran_bytes_settled : (κ : Lfts 2) → Lends (ran.Post κ) (λ e. e.0.now.bytes.now)
ran_bytes_settled κ x e f r s p q = settled p.bytes q.bytes

pub ticked_settled : (κ : Lfts 2) → Lends (ticked.Post κ) (λ e. e.0.now.end)
ticked_settled κ x e f r s p q = settled p.end q.end

pub ticked_bytes_settled : (κ : Lfts 2) → Lends (ticked.Post κ) (λ e. e.0.now.bytes.now)
ticked_bytes_settled κ x e f r s p q = settled p.bytes q.bytes

pub totals_settled : (κ : Lfts 2) → Lends (totals.Post κ) (λ e. e.0.now.end)
totals_settled κ x e f r s p q = settled p.end q.end

pub totals_bytes_settled : (κ : Lfts 2) → Lends (totals.Post κ) (λ e. e.0.now.bytes.now)
totals_bytes_settled κ x e f r s p q = settled p.bytes q.bytes

pub runner_settled : (κ : Lfts 2) → Lends (runner.Post κ) (λ e. e.0.now.end)
runner_settled κ x e f r s p q = settled p.end q.end

pub runner_bytes_settled : (κ : Lfts 2) → Lends (runner.Post κ) (λ e. e.0.now.bytes.now)
runner_bytes_settled κ x e f r s p q = settled p.bytes q.bytes

pub watched_settled : (κ : Lfts 2) → Lends (watched.Post κ) (λ e. e.0.now.end)
watched_settled κ x e f r s p q = settled p.end q.end

pub watched_bytes_settled : (κ : Lfts 2) → Lends (watched.Post κ) (λ e. e.0.now.bytes.now)
watched_bytes_settled κ x e f r s p q = settled p.bytes q.bytes
