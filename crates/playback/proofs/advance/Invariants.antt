use Prim.Native.Nat.{◌-◌}
use lib.ListN.{length}
use Rattle.playback.specs.Replay.{played_in, beginning}
use Rattle.playback.proofs.Course.{Playing}
use Rattle.playback.proofs.advance.Given as goal

abbrev pub invariant-loop-plan : goal.invariant-loop-plan
invariant-loop-plan l = Playing l.plan l.bytes l.initial.text (played_in (length l.bytes) l.plan (length l.initial.text.bytes.now) (beginning l.initial.state l.bytes)) l.text l.state l.at

abbrev pub decreases-loop-plan : goal.decreases-loop-plan
decreases-loop-plan l = length l.bytes - l.at
