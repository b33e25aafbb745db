use mathlib.Core.Path.{sym, ◌∙◌}
use Rattle.std.proofs.lemmas.Result.{err_from_is_err_and}
use Rattle.plans.proofs.InShape.{accepted_plan}
use Rattle.bounds.proofs.Accepted.{plan_moderate, asked_refused, asked_past, asked_known}
use Rattle.bounds.proofs.ask_bound.Goals as goal

pub returns-in_err-check_plan : goal.returns-in_err-check_plan
returns-in_err-check_plan c =
    let p = err_from_is_err_and c.from_residual.result c.from_residual.ensures.1 in
    rw (p.1, p.2) (sym (asked_refused _ _ _ (sym c.check_plan.ensures ∙ c.in_err-check_plan.was)))

pub returns-then-plan-q : goal.returns-then-plan-q
returns-then-plan-q c = sym (asked_past _ _ (sym c.check_plan.ensures ∙ c.in_ok-check_plan.was) c.if-plan-q.true)

pub bound_of-b-requires : goal.bound_of-b-requires
bound_of-b-requires c = (c.if-plan-q.false, plan_moderate _ (accepted_plan _ (sym c.check_plan.ensures ∙ c.in_ok-check_plan.was)))

pub returns : goal.returns
returns c = rw (c.margin_of.ensures, c.bound_of-b.ensures.0, c.bound_of-b.ensures.1) (sym (asked_known _ _ (sym c.check_plan.ensures ∙ c.in_ok-check_plan.was) c.if-plan-q.false))
