use mathlib.Core.Path.{◌≡◌}
use Rattle.tasks.specs.Below.{padded}
use Rattle.dispatch.specs.Choice.{no_stand, stand_of}
use Rattle.dispatch.proofs.State.stands.Given as goal

abbrev pub invariant-loop-i : goal.invariant-loop-i
invariant-loop-i l = l.stands ≡ padded 64 l.i no_stand (stand_of l.fn.plan l.fn.self)
