use native.Mathlib.Omega.{arith}
use mathlib.Core.Path.{◌≡◌}
use Rattle.plans.specs.Rank.{above}
use Rattle.lending.specs.Adding.{pressure_on, added}
use Rattle.lending.proofs.add.Goals as goal

-- what is added is the interference of the piece
pressed : (c : goal.After-pressure) → c.pressure.result ≡ pressure_on c.args.adding c.args.piece
unfolding pressure_on above
pressed c = rw (c.index-k.ensures.0, c.index-i.ensures.0) at c.pressure.ensures

pub overflow_add-adding : goal.overflow_add-adding
overflow_add-adding c = omega (arith, pressed c, c.requires.room)

pub returns : goal.returns
unfolding added
returns c = rw (pressed c)
