use mathlib.Core.Path.{sym, ◌∙◌}
use Rattle.std.proofs.lemmas.Result.{err_from_is_err_and}
use Rattle.planfile.proofs.Outcomes.{not_read, not_planned, was_written}
use Rattle.planfile.proofs.plan_file.Goals as goal

pub returns-in_err-table : goal.returns-in_err-table
returns-in_err-table c =
    let e = err_from_is_err_and c.from_residual.result c.from_residual.ensures.1 in
    rw (e.1, e.2) (not_read _ _ _ c.in_err-table.was)

pub returns-in_err-plan : goal.returns-in_err-plan
returns-in_err-plan c =
    let e = err_from_is_err_and c.from_residual-in_err-plan.result c.from_residual-in_err-plan.ensures.1 in
    rw (e.1, e.2) (not_planned _ _ _ c.in_ok-table.was _ (sym c.plan_table.ensures ∙ c.in_err-plan.was))

pub returns : goal.returns
returns c = was_written _ _ _ c.in_ok-table.was _ (sym c.plan_table.ensures ∙ c.in_ok-plan.was) _ _ c.write_plan.ensures
