use native.Mathlib.Omega.{arith}
use mathlib.Core.Path.{sym}
use native.Mathlib.Nat.{div-le_self, le_trans}
use Rattle.bounds.proofs.Sums.{local_small}
use Rattle.planner.specs.Limit.{allowance}
use Rattle.planner.proofs.Allowed.{no_margin, periods_is}
use borrow.Author.Rules.{rules}
use Rattle.planner.proofs.allowance.Goals as goal

pub returns-then-b : goal.returns-then-b
returns-then-b c = let b = c.bound_of-b in
    (sym (no_margin _ _ _ (omega (arith, b.ensures.0, b.ensures.1))), search rules)

pub returns : goal.returns
unfolding allowance
returns c = let b = c.bound_of-b in
    (rw (c.div_ceil.ensures, periods_is c.args.p b.result.deadline c.requires.0, b.ensures.0, b.ensures.1), le_trans (div-le_self _ _) (omega (arith, local_small c.args.plan c.requires.3 c.args.q c.requires.2, b.ensures.0)))
