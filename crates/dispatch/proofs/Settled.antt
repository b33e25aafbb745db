-- Each public contract settles its result.
use Rattle.tasks.proofs.Settling.{Settles, settled}
use Rattle.dispatch.proofs.fresh.Reads as fresh
use Rattle.dispatch.proofs.tick.Reads as tick

pub fresh_settled : Settles (fresh.Post tt)
fresh_settled x e r s p q = settled p q

pub tick_settled : Settles (tick.Post tt)
tick_settled x e r s p q = settled p q
