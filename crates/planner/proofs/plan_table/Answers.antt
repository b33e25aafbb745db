use mathlib.Core.Path.{sym, ◌∙◌}
use Rattle.std.proofs.lemmas.Result.{err_from_is_err_and}
use Rattle.planner.proofs.Placing.{table_refused, table_laid}
use Rattle.planner.proofs.plan_table.Goals as goal

pub returns-in_err-check_table : goal.returns-in_err-check_table
returns-in_err-check_table c =
    let p = err_from_is_err_and c.from_residual.result c.from_residual.ensures.1 in
    rw (p.1, p.2) (sym (table_refused _ _ (sym c.check_table.ensures ∙ c.in_err-check_table.was)))

pub returns : goal.returns
returns c = c.lay_out.ensures ∙ sym (table_laid _ (sym c.check_table.ensures ∙ c.in_ok-check_table.was))
