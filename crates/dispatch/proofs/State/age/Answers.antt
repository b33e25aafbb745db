use mathlib.Core.List.{List}
use mathlib.Core.Path.{◌≡◌, ap, ◌∙◌}
use native.Mathlib.Omega.{arith}
use lib.ListN.{get_or}
use Rattle.tasks.specs.Tables.{no_task}
use Rattle.tasks.specs.declared.Task.{Task}
use Rattle.dispatch.specs.Rules.{aged_job, age}
use Rattle.dispatch.proofs.InPlace.{changed, changed_start, changed_turn, changed_all}
use Rattle.dispatch.proofs.State.age.Goals as goal

pub loop-i-init : goal.loop-i-init
loop-i-init c = λ p e. changed_start (aged_job p) _ c.requires.1.whole

pub loop-i-preserved : goal.loop-i-preserved
loop-i-preserved c = λ p e. changed_turn (aged_job p) _ _ _ _ (c.loop-i.invariant p e) (omega arith) (c.aged_job.ensures p _ (ap (λ (ts : List Task). (get_or ts c.loop-i.i no_task).period) e))

pub returns : goal.returns
unfolding age
returns c = λ p h q. let e : c.loop-i.i ≡ p.count = omega (arith, h, c.loop-i.auto.i-end) in c.loop-i.invariant p q ∙ ap (changed (aged_job p) _) e ∙ changed_all (aged_job p) _ p (rw h c.requires.1)
