use borrow.Author.Rules.{rules}
use borrow.Author.Tests.{eqb-true, eqb-false, not-true, not-false}
use native.Mathlib.Omega.{arith}
use Prim.Native.Nat.{ℕ}
use mathlib.Core.Path.{◌≡◌, sym, ◌∙◌}
use mathlib.Core.Logic.{inl, inr}
use Rattle.plans.specs.declared.Plan.{Plan}
use Rattle.planner.specs.Limit.{limit_of}
use Rattle.planner.specs.Shared.{close}
use Rattle.planner.proofs.Allowed.{limit_other, limit_here, limit_nothing, limit_start}
use Rattle.planner.proofs.Searching.{run_out, skip, part, fill, fit}
use Rattle.planner.proofs.Draft.share_out.Goals as goal

-- past the last piece the least so far is the core's limit
all_seen : (w : Plan) (p x q most : ℕ) → most ≡ limit_of w p x q → q ≡ w.placed → most ≡ limit_of w p x w.placed
all_seen w p x q most e h = rw h at e

pub cores-preserved-then-next-x : goal.cores-preserved-then-next-x
cores-preserved-then-next-x c = skip c.cores.invariant c.cores-test.true (inl c.if-next-x.true)

pub loop-q-init : goal.loop-q-init
loop-q-init c = (search rules, sym (limit_start _ _ _))

pub loop-q-preserved-then-ne : goal.loop-q-preserved-then-ne
loop-q-preserved-then-ne c = (c.loop-q.invariant.0, c.loop-q.invariant.1 ∙ sym (limit_other _ _ _ _ (eqb-false _ _ (not-true _ (sym c.ne.ensures ∙ c.if-ne.true)))))

pub cores-preserved-then-allowed-eq0 : goal.cores-preserved-then-allowed-eq0
cores-preserved-then-allowed-eq0 c =
    let here = eqb-true _ _ (not-false _ (sym c.ne.ensures ∙ c.if-ne.false)) in
    skip c.cores.invariant c.cores-test.true (inr (limit_nothing _ _ _ c.loop-q.q _ c.loop-q-test.true here (sym c.allowance-allowed.ensures.0 ∙ c.if-allowed-eq0.true)))

pub loop-q-preserved : goal.loop-q-preserved
loop-q-preserved c =
    let here = eqb-true _ _ (not-false _ (sym c.ne.ensures ∙ c.if-ne.false)) in
    (omega (arith, c.min-most.ensures), c.min-most.ensures ∙ rw (c.loop-q.invariant.1, c.allowance-allowed.ensures.0) (sym (limit_here _ _ _ _ here)))

pub cores-preserved : goal.cores-preserved
unfolding close
cores-preserved c = rw c.give-next.ensures (part c.cores.invariant c.cores-test.true c.if-next-x.false (all_seen _ _ _ _ _ c.loop-q.invariant.1 (omega arith)) c.loop-q.invariant.0 (omega arith))

pub returns-then-need-most : goal.returns-then-need-most
returns-then-need-most c = rw c.give.ensures (sym (fit c.cores.invariant c.cores-test.true c.if-next-x.false (all_seen _ _ _ _ _ c.loop-q.invariant.1 (omega arith)) c.loop-q.invariant.0 c.if-need-most.true))

pub returns-then-most-need : goal.returns-then-most-need
unfolding close
returns-then-most-need c = rw c.give-next.ensures (sym (fill c.cores.invariant c.cores-test.true c.if-next-x.false (all_seen _ _ _ _ _ c.loop-q.invariant.1 (omega arith)) c.loop-q.invariant.0 c.if-most-need.true))

pub returns : goal.returns
returns c = sym (run_out c.cores.invariant c.cores-test.false)
