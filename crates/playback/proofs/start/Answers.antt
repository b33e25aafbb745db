use Rattle.playback.proofs.start.Goals as goal

pub returns : goal.returns
returns c = rw c.fresh.ensures
