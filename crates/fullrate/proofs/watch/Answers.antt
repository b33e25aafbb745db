use Rattle.fullrate.proofs.Turns.{watched_kept}
use Rattle.fullrate.proofs.watch.Goals as goal

pub returns : goal.returns
returns c = rw (c.watch_from.ensures, c.fresh.ensures) (watched_kept c.args.plan c.args.ticks)
