use native.Mathlib.Omega.{arith}
use Rattle.ticklines.proofs.Lengths.{no_gap, some_gap}
use Rattle.texts.specs.Text.{ascii}
use Rattle.ticklines.proofs.gap.Goals as goal

pub returns-then-x-gt0 : goal.returns-then-x-gt0
unfolding ascii
returns-then-x-gt0 c = some_gap c.args.x c.if-x-gt0.true c.words.ensures

pub returns-else-x-gt0 : goal.returns-else-x-gt0
returns-else-x-gt0 c = no_gap c.args.x c.args.text.now (omega (arith, c.if-x-gt0.false))
