use mathlib.Core.Path.{sym, ◌∙◌}
use Rattle.std.proofs.lemmas.Result.{err_from_is_err_and}
use Rattle.lending.proofs.Asking.{asked_refused, asked_inside, asked_past}
use Rattle.lending.proofs.asked.Goals as goal

pub returns-in_err-check_plan : goal.returns-in_err-check_plan
returns-in_err-check_plan c =
    let p = err_from_is_err_and c.from_residual.result c.from_residual.ensures.1 in
    rw (p.1, p.2) (sym (asked_refused _ _ _ (sym c.check_plan.ensures ∙ c.in_err-check_plan.was)))

pub returns-then-q-plan : goal.returns-then-q-plan
returns-then-q-plan c = sym (asked_inside _ _ (sym c.check_plan.ensures ∙ c.in_ok-check_plan.was) c.if-q-plan.true)

pub returns-else-q-plan : goal.returns-else-q-plan
returns-else-q-plan c = sym (asked_past _ _ (sym c.check_plan.ensures ∙ c.in_ok-check_plan.was) c.if-q-plan.false)
