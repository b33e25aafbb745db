use Rattle.dispatch.proofs.Choosing.{better_turn}
use Rattle.dispatch.proofs.better.Goals as goal

pub returns-then-stand-is_none : goal.returns-then-stand-is_none
returns-then-stand-is_none c = λ p s q f h. better_turn p s _ _ _ _ _ _ _ q f h c.is_none.ensures c.outranks-above.ensures c.if-stand-is_none.true

pub returns-else-stand-is_none : goal.returns-else-stand-is_none
returns-else-stand-is_none c = λ p s q f h. better_turn p s _ _ _ _ _ _ _ q f h c.is_none.ensures c.outranks-above.ensures c.if-stand-is_none.false
