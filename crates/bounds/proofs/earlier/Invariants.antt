use mathlib.Core.Path.{◌≡◌}
use Rattle.plans.specs.Pieces.{piece_of, costs}
use Rattle.bounds.proofs.earlier.Given as goal

abbrev pub invariant-loop-j : goal.invariant-loop-j
invariant-loop-j l = l.spent ≡ costs (piece_of l.fn.plan) (piece_of l.fn.plan l.fn.q).task.0 l.j
