use native.Mathlib.Omega.{arith}
use Rattle.tasks.proofs.Padded.{padded_turn}
use Rattle.tasks.proofs.Tabulate.{padded_start}
use Rattle.dispatch.specs.Choice.{no_stand}
use Rattle.dispatch.proofs.Choosing.{stand_made}
use Rattle.dispatch.proofs.Reading.{more_read}
use Rattle.dispatch.proofs.State.stands.Goals as goal

pub loop-i-init : goal.loop-i-init
loop-i-init c = padded_start 64 no_stand _

pub loop-i-preserved : goal.loop-i-preserved
loop-i-preserved c =
    let a = c.args in
    let task = c.index-task.ensures.0 in
    padded_turn 64 no_stand _ _ _ _ (omega (arith, c.requires.0.count)) c.loop-i.invariant (stand_made a.plan a.self c.loop-i.i _ _ _ task c.is_active.ensures (more_read a.plan _ _ _ _ c.requires.0.placed c.min.ensures task c.index.ensures.0))
