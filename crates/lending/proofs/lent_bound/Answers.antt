use Rattle.std.proofs.Common.{arith}
use mathlib.Core.Path.{refl, sym, ◌∙◌}
use Rattle.std.proofs.lemmas.Result.{err_from_is_err_and}
use Rattle.bounds.proofs.Sums.{local_is}
use Rattle.lending.proofs.Asking.{asked_moderate, asked_place, spent_within}
use Rattle.lending.proofs.Summed.{lent_refused, lent_known, starts, sums_up}
use Rattle.lending.proofs.lent_bound.Goals as goal

pub returns-in_err-asked : goal.returns-in_err-asked
returns-in_err-asked c =
    let p = err_from_is_err_and c.from_residual.result c.from_residual.ensures.1 in
    rw (p.1, p.2) (sym (lent_refused _ _ _ _ c.recorded-plan.ensures _ (sym c.asked.ensures ∙ c.in_err-asked.was)))

pub offset_bounds-plan-q : goal.offset_bounds-plan-q
offset_bounds-plan-q c =
    let k = sym c.asked.ensures ∙ c.in_ok-asked.was in
    omega (arith, asked_place _ _ k, (asked_moderate _ _ k).few)

pub bounds-plan-q : goal.bounds-plan-q
bounds-plan-q c =
    let k = sym c.asked.ensures ∙ c.in_ok-asked.was in
    omega (arith, asked_place _ _ k, (asked_moderate _ _ k).few)

pub bounds-plan-index : goal.bounds-plan-index
bounds-plan-index c =
    let k = sym c.asked.ensures ∙ c.in_ok-asked.was in
    omega (arith, c.index.ensures.0, (asked_moderate _ _ k).owned _ (asked_place _ _ k))

pub earlier-requires : goal.earlier-requires
earlier-requires c =
    let k = sym c.asked.ensures ∙ c.in_ok-asked.was in
    (asked_place _ _ k, asked_moderate _ _ k)

pub overflow_sub-deadline : goal.overflow_sub-deadline
overflow_sub-deadline c = rw (c.index.ensures.0, c.earlier.ensures) (spent_within _ _ (sym c.asked.ensures ∙ c.in_ok-asked.was))

pub add_all-bound-requires : goal.add_all-bound-requires
add_all-bound-requires c =
    let p = c.recorded-plan.result in
    let k = sym c.asked.ensures ∙ c.in_ok-asked.was in
    let e = local_is p c.args.q _ _ _ c.index.ensures.0 c.earlier.ensures refl in
    rw e (starts c.args.table c.args.pieces.now c.args.q p c.recorded-plan.ensures k)

pub returns : goal.returns
returns c =
    let p = c.recorded-plan.result in
    let k = sym c.asked.ensures ∙ c.in_ok-asked.was in
    let e = local_is p c.args.q _ _ _ c.index.ensures.0 c.earlier.ensures refl in
    rw (c.margin_of.ensures, c.add_all-bound.ensures, e, sums_up c.args.table c.args.pieces.now c.args.q p c.recorded-plan.ensures k) (sym (lent_known c.args.table c.args.pieces.now c.args.q p c.recorded-plan.ensures k))
