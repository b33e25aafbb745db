use Rattle.playback.proofs.Course.{left_is}
use Rattle.playback.proofs.left.Goals as goal

pub returns : goal.returns
returns c = left_is c.args.rest.now _ c.requires c.copy_from_slice.ensures.after
