use Rattle.std.proofs.lemmas.Result.{err_from_is_err_and}
use mathlib.Core.Path.{sym, ◌∙◌}
use Rattle.tasks.proofs.Tables.{accepted_good}
use Rattle.plans.proofs.Shaped.{tasks_refused, shape_refused, shape_accepted}
use Rattle.plans.proofs.check_plan.Goals as goal

pub shape-requires : goal.shape-requires
shape-requires c = (accepted_good _ _ _ (sym c.check_tasks.ensures ∙ c.in_ok-check_tasks.was)).tasks.1

pub returns-in_err-check_tasks : goal.returns-in_err-check_tasks
returns-in_err-check_tasks c =
    let p = err_from_is_err_and c.from_residual.result c.from_residual.ensures.1 in
    rw (p.1, p.2) (sym (tasks_refused _ _ (sym c.check_tasks.ensures ∙ c.in_err-check_tasks.was)))

pub returns-then-shape : goal.returns-then-shape
returns-then-shape c = sym (shape_accepted _ (sym c.check_tasks.ensures ∙ c.in_ok-check_tasks.was) (sym c.shape.ensures ∙ c.if-shape.true))

pub returns-else-shape : goal.returns-else-shape
returns-else-shape c = sym (shape_refused _ (sym c.check_tasks.ensures ∙ c.in_ok-check_tasks.was) (sym c.shape.ensures ∙ c.if-shape.false))
