use Rattle.writing.specs.Fields.{plan_bytes}
use Rattle.std.proofs.lemmas.Result.{err_from_is_err_and}
use Rattle.writing.proofs.Writing.{write_refused, write_short, write_done, plan_length}
use Rattle.writing.specs.Writing.{plan_written, plan_filled}
use mathlib.Core.Path.{sym, ◌∙◌}
use Rattle.writing.proofs.write_plan.Goals as goal

pub returns-in_err-check_plan : goal.returns-in_err-check_plan
unfolding plan_written plan_filled
returns-in_err-check_plan c =
    let p = err_from_is_err_and c.from_residual.result c.from_residual.ensures.1 in
    rw (p.1, p.2) (write_refused _ (plan_bytes c.args.plan) _ _ (sym c.check_plan.ensures ∙ c.in_err-check_plan.was))

pub returns-then-out-length : goal.returns-then-out-length
unfolding plan_written plan_filled
returns-then-out-length c = write_short _ _ _ (sym c.check_plan.ensures ∙ c.in_ok-check_plan.was) _ (plan_length c.args.plan) c.if-out-length.true

pub returns : goal.returns
unfolding plan_written plan_filled
returns c = write_done _ _ _ (sym c.check_plan.ensures ∙ c.in_ok-check_plan.was) _ (plan_length c.args.plan) _ _ c.put_plan.ensures.0 c.if-out-length.false c.put_plan.ensures.1
