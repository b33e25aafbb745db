use mathlib.Core.Path.{◌≡◌}
use Rattle.plans.specs.declared.Plan.{Plan}
use Rattle.dispatch.specs.Rules.{aged_job}
use Rattle.dispatch.proofs.InPlace.{changed}
use Rattle.dispatch.proofs.State.age.Given as goal

abbrev pub invariant-loop-i : goal.invariant-loop-i
invariant-loop-i l = (p : Plan) → p.tasks ≡ l.fn.tasks → l.self ≡ changed (aged_job p) l.fn.self l.i
