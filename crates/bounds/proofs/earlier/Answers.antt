use Rattle.std.proofs.Common.{arith, ◌≡◌, ◌+◌}
use mathlib.Core.Path.{sym, ◌∙◌}
use Rattle.plans.specs.Pieces.{piece_of, costs}
use Rattle.plans.proofs.Costs.{costs_none, costs_turn}
use Rattle.bounds.proofs.Sums.{costs_small}
use Rattle.bounds.proofs.earlier.Goals as goal
use Rattle.bounds.proofs.earlier.Goals.{then-eq, else-eq}

pub loop-j-init : goal.loop-j-init
loop-j-init c = sym (costs_none _ _)

pub overflow_add-spent : goal.overflow_add-spent
overflow_add-spent c =
    let p = c.args.plan in
    let e : c.loop-j.spent + (piece_of p c.loop-j.j).cost ≡ costs (piece_of p) (piece_of p c.args.q).task.0 (c.loop-j.j + 1) = costs_turn (piece_of p) _ _ _ _ c.loop-j.invariant (rw (sym c.eq.ensures ∙ c.if-eq.true)) in
    omega (arith, e, costs_small p c.requires.1 (piece_of p c.args.q).task.0 (c.loop-j.j + 1) (omega arith), c.requires.1.few)

pub loop-j-preserved : goal.loop-j-preserved
loop-j-preserved c =
    let p = c.args.plan in
    elim c.if-eq.branch [
      | then-eq w ↦ w.spent-is ∙ costs_turn (piece_of p) _ _ _ _ c.loop-j.invariant (rw (sym c.eq.ensures ∙ w.if-eq.true))
      | else-eq w ↦ w.spent-is ∙ omega (arith, costs_turn (piece_of p) (piece_of p c.args.q).task.0 c.loop-j.j c.loop-j.spent 0 c.loop-j.invariant (rw (sym c.eq.ensures ∙ w.if-eq.false)))
    ]
