use mathlib.Core.Path.{refl, sym, ap, ◌∙◌}
use Prim.Native.Nat.{◌<◌}
use native.Mathlib.Omega.{arith}
use Rattle.jobs.specs.declared.Tasks.{Tasks}
use Rattle.fullrate.proofs.AllowedTurns.{allowed_few, allowed_turn}
use Rattle.fullrate.specs.Allowed.{allowed_below}
use Rattle.fullrate.proofs.all_allowed.Goals as goal
use Rattle.fullrate.proofs.all_allowed.Goals.{then-may_be_released, else-may_be_released}

pub loop-i-init : goal.loop-i-init
unfolding allowed_below
loop-i-init c = (c.min-i-end.ensures, refl)

-- there is room for one member more
room : (c : goal.Then-may_be_released) → c.loop-i.set.count < 64
room c = omega (arith, c.loop-i.invariant.0, ap (λ (u : Tasks). u.count) c.loop-i.invariant.1, allowed_few c.args.plan c.args.state c.loop-i.i)

pub bounds-set-set : goal.bounds-set-set
bounds-set-set c = room c

pub overflow_add-set : goal.overflow_add-set
overflow_add-set c = omega (arith, room c)

pub loop-i-preserved : goal.loop-i-preserved
loop-i-preserved c = (
  c.loop-i.invariant.0,
  elim c.if-may_be_released.branch [
    | then-may_be_released w ↦ w.set-is ∙ allowed_turn c.args.plan c.args.state c.loop-i.i _ _ _ c.loop-i.invariant.1 (sym w.if-may_be_released.true ∙ c.may_be_released.ensures) refl
    | else-may_be_released w ↦ w.set-is ∙ allowed_turn c.args.plan c.args.state c.loop-i.i _ _ _ c.loop-i.invariant.1 (sym w.if-may_be_released.false ∙ c.may_be_released.ensures) refl
  ],
)
