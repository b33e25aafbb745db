-- Each public contract settles its result.
use Rattle.tasks.proofs.Settling.{Settles, settled}
use Rattle.fullrate.proofs.all_allowed.Reads as all-allowed
use Rattle.fullrate.proofs.full_tick.Reads as full-tick
use Rattle.fullrate.proofs.watch.Reads as watch

pub all_allowed_settled : Settles (all-allowed.Post tt)
all_allowed_settled x e r s p q = settled p q

pub watch_settled : Settles (watch.Post tt)
watch_settled x e r s p q = settled p q

pub full_tick_settled : Settles (full-tick.Post tt)
full_tick_settled x e r s p q = settled p q
