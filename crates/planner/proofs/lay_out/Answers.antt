use native.Mathlib.Omega.{arith}
use Prim.Native.Nat.{◌+◌, ◌-◌}
use mathlib.Core.Path.{◌≡◌, sym, ap, ◌∙◌}
use Rattle.std.proofs.lemmas.Result.{err_from_is_err_and}
use Rattle.tasks.proofs.Tables.{accepted_good}
use Rattle.planner.specs.Layout.{laid, lay_first, outcome}
use Rattle.std.specs.Prelude.{None}
use Rattle.std.specs.Result.{result_ok}
use Rattle.planner.proofs.Placing.{err_is, lay_more, lay_stuck}
use Rattle.planner.proofs.Offered.{offered}
use Rattle.planner.proofs.lay_out.Goals as goal

pub begin-draft-requires : goal.begin-draft-requires
begin-draft-requires c = (accepted_good _ _ _ c.requires).tasks.1

pub loop-i-init : goal.loop-i-init
unfolding lay_first
loop-i-init c = ap laid (sym c.begin-draft.ensures)

pub overflow_cast-task : goal.overflow_cast-task
overflow_cast-task c = omega (arith, (accepted_good _ _ _ c.requires).tasks.1)

pub place-requires : goal.place-requires
place-requires c = offered c.args.table c.requires _ _ c.loop-i.invariant c.loop-i-test.true

pub returns-in_err-draft : goal.returns-in_err-draft
returns-in_err-draft c =
    let p = err_from_is_err_and c.from_residual.result c.from_residual.ensures.1 in
    let t = c.args.table in
    let e : c.loop-i.i + 1 + (t.count - (c.loop-i.i + 1)) ≡ t.count = omega arith in
    let none : c.place.result ≡ None = c.ok_or.ensures.ok_part ∙ ap result_ok c.in_err-draft.was in
    let named = err_is (sym c.in_err-draft.was ∙ c.ok_or.ensures.value ∙ rw none) in
    rw (p.1, p.2, named) (ap outcome (sym (rw e at (lay_stuck _ _ _ c.loop-i.invariant (sym c.place.ensures ∙ none) (t.count - (c.loop-i.i + 1))))))

pub loop-i-preserved : goal.loop-i-preserved
loop-i-preserved c = lay_more _ _ _ c.loop-i.invariant _ (sym c.place.ensures ∙ c.ok_or.ensures.ok_part ∙ ap result_ok c.in_ok-draft.was)
