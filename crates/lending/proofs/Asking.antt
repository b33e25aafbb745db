-- The answer on a piece of a plan, and what it says of the plan.
use mathlib.Core.Path.{◌≡◌, refl, sym, ◌∙◌}
use mathlib.Core.Bool.{Bool, true, false}
use Prim.Native.Nat.{ℕ, ◌≤◌, ◌<◌}
use native.Mathlib.Omega.{arith}
use lib.Dec.{ltb}
use borrow.Author.Tests.{lt-ltb, le-ltb, ltb-true, ltb-false}
use Rattle.tasks.specs.Answers.{Answer, Accepted, Refused}
use Rattle.tasks.specs.declared.Refusal.{Refusal}
use Rattle.tasks.specs.declared.Refusal.TheVariants.{NoPlanShape}
use Rattle.tasks.proofs.Answers.{accepted_not}
use Rattle.bounds.specs.Leaves.{Moderate}
use Rattle.plans.specs.Pieces.{task_of, piece_of, earlier}
use Rattle.plans.specs.Shape.{checked_plan}
use Rattle.plans.specs.declared.Plan.{Plan}
use Rattle.plans.proofs.InShape.{GoodPlan, accepted_plan, earlier_within, fits}
use Rattle.bounds.proofs.Accepted.{plan_moderate}
use Rattle.lending.specs.Recorded.{asked_of}

module _ (p : Plan) (q : ℕ) where
  pub asked_refused : (r : Refusal) → checked_plan p ≡ Refused r → asked_of p q ≡ Refused r
  unfolding asked_of
  asked_refused r h = rw h

  module _ (accepted : checked_plan p ≡ Accepted) where
    pub asked_inside : q < p.placed → asked_of p q ≡ Accepted
    unfolding asked_of
    asked_inside h = rw (accepted, lt-ltb q p.placed h)

    pub asked_past : p.placed ≤ q → asked_of p q ≡ Refused NoPlanShape
    unfolding asked_of
    asked_past h = rw (accepted, le-ltb q p.placed h)

  -- an accepted question is of a good plan and a piece of it
  module _ (accepted : asked_of p q ≡ Accepted) where
    pub asked_plan : checked_plan p ≡ Accepted
    asked_plan = go (checked_plan p) refl
      where
        go : (a : Answer) → checked_plan p ≡ a → checked_plan p ≡ Accepted
        go Accepted e = e
        go (Refused r) e = accepted_not (sym (asked_refused r e) ∙ accepted)

    pub asked_good : GoodPlan p
    asked_good = accepted_plan p asked_plan

    pub asked_moderate : Moderate p
    asked_moderate = plan_moderate p asked_good

    pub asked_place : q < p.placed
    asked_place = go (ltb q p.placed) refl
      where
        go : (b : Bool) → ltb q p.placed ≡ b → q < p.placed
        go true e = ltb-true _ _ e
        go false e = accepted_not (sym (asked_past asked_plan (ltb-false _ _ e)) ∙ accepted)

    -- what the earlier pieces cost is within the deadline
    pub spent_within : earlier (piece_of p) q ≤ (task_of p (piece_of p q).task.0).deadline
    spent_within =
        let t = asked_good.table.values (piece_of p q).task.0 (fits p.cores p.count (task_of p) (piece_of p) p.placed asked_good.shaped q asked_place).task in
        omega (arith, earlier_within p.cores p.count (task_of p) (piece_of p) p.placed asked_good.shaped q asked_place, t.short)
