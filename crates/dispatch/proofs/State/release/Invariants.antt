use mathlib.Core.Path.{◌≡◌}
use Rattle.tasks.specs.Below.{tabulate}
use Rattle.plans.specs.declared.Plan.{Plan}
use Rattle.dispatch.specs.Rules.{first_piece, released_job}
use Rattle.dispatch.proofs.InPlace.{changed}
use Rattle.dispatch.proofs.State.release.Given as goal

abbrev pub invariant-loop-i : goal.invariant-loop-i
invariant-loop-i l = (p : Plan) → l.fn.firsts ≡ tabulate 256 (first_piece p) → l.self ≡ changed (released_job p l.fn.released) l.fn.self l.i
