use mathlib.Core.Path.{◌≡◌}
use Rattle.tasks.specs.Below.{tabulate}
use Rattle.plans.specs.Pieces.{piece_of}
use Rattle.dispatch.proofs.Walks.{first_from}
use Rattle.dispatch.proofs.first_pieces.Given as goal

abbrev pub invariant-loop-j : goal.invariant-loop-j
invariant-loop-j l = l.firsts ≡ tabulate 256 (first_from (λ k. (piece_of l.fn.plan k).task.0) l.fn.plan.placed l.j)
