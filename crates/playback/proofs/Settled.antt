-- Each public contract settles its result, and that of `play` the lent bytes.
use contract.Lifetimes.{Lfts}
use Rattle.tasks.proofs.Settling.{Settles, Lends, settled}
use Rattle.playback.proofs.start.Reads as start
use Rattle.playback.proofs.last.Reads as last
use Rattle.playback.proofs.play.Reads as play

pub start_settled : Settles (start.Post tt)
start_settled x e r s p q = settled p q

pub last_settled : Settles (last.Post tt)
last_settled x e r s p q = settled p q

pub play_settled : (κ : Lfts 1) → Settles (play.Post κ)
play_settled κ x e r s p q = settled p.0 q.0

pub play_bytes_settled : (κ : Lfts 1) → Lends (play.Post κ) (λ e. e.0.now)
play_bytes_settled κ x e f r s p q = settled p.1 q.1
