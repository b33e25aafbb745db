use mathlib.Core.Path.{sym, ◌∙◌}
use Rattle.std.proofs.lemmas.Result.{err_from_is_err_and}
use Rattle.dispatch.specs.Advance.{checked}
use Rattle.dispatch.specs.States.{well_made}
use Rattle.dispatch.specs.Tick.{judged}
use Rattle.dispatch.proofs.judge.Goals as goal

pub returns-in_err-check_plan : goal.returns-in_err-check_plan
unfolding judged checked
returns-in_err-check_plan c =
    let p = err_from_is_err_and c.from_residual.result c.from_residual.ensures.1 in
    rw (p.1, p.2, sym c.check_plan.ensures ∙ c.in_err-check_plan.was)

pub returns-then-not-well_made : goal.returns-then-not-well_made
unfolding judged checked well_made
returns-then-not-well_made c = rw (sym c.check_plan.ensures ∙ c.in_ok-check_plan.was, sym c.well_made.ensures ∙ c.if-not-well_made.true)

pub returns : goal.returns
unfolding judged checked well_made
returns c = rw (sym c.check_plan.ensures ∙ c.in_ok-check_plan.was, sym c.well_made.ensures ∙ c.if-not-well_made.false, c.judge_sets.ensures)
