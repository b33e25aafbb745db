use lib.ListN.{take}
use Rattle.std.proofs.lemmas.List.{take_rest}
use Rattle.playback.proofs.Course.{played_is}
use Rattle.playback.proofs.play.Goals as goal

pub returns : goal.returns
returns c =
    let rest = take_rest (take c.min.result c.args.player.bytes) c.advance-reached.result.at in
    played_is c.args.plan c.args.player _ _ _ _ _ _ _ c.min.ensures rest c.advance-reached.ensures c.left.ensures c.further.ensures
