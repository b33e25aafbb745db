use native.Mathlib.Omega.{arith}
use mathlib.Core.Path.{sym, ◌∙◌}
use borrow.Author.Tests.{le-leb, lt-leb}
use Rattle.plans.specs.Shape.{shape}
use Rattle.plans.proofs.shape.Goals as goal
use Rattle.plans.proofs.shape.Goals.{then-n-lt1-via-then-n-lt1, then-n-lt1-via-else-n-lt1+then-n-gt128, then-n-lt1-via-else-n-lt1+else-n-gt128+then-not-pieces_fit}

pub returns-then-n-lt1 : goal.returns-then-n-lt1
unfolding shape
returns-then-n-lt1 c =
    let n = c.args.plan.placed in
    elim c.then-n-lt1.branch [
      | then-n-lt1-via-then-n-lt1 w ↦ rw (lt-leb 1 n (omega arith))
      | then-n-lt1-via-else-n-lt1+then-n-gt128 w ↦ rw (le-leb 1 n (omega arith), lt-leb n 128 (omega arith))
      | then-n-lt1-via-else-n-lt1+else-n-gt128+then-not-pieces_fit w ↦ rw (le-leb 1 n (omega arith), le-leb n 128 (omega arith), sym w.pieces_fit.ensures ∙ w.if-not-pieces_fit.true)
    ]

pub returns : goal.returns
unfolding shape
returns c =
    let n = c.args.plan.placed in
    rw (le-leb 1 n (omega arith), le-leb n 128 (omega arith), sym c.pieces_fit.ensures ∙ c.if-not-pieces_fit.false, c.index.ensures.0)
