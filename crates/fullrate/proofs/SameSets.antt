-- Plans and states that agree up to their counts allow the same tasks: what stands past a count is not read.
use mathlib.Core.Path.{◌≡◌, refl, ap, ◌∙◌}
use Prim.Native.Nat.{ℕ, zero, suc, min, ◌≤◌, ◌<◌}
use native.Mathlib.Omega.{arith}
use Rattle.plans.specs.Pieces.{SamePlan}
use Rattle.plans.specs.declared.Plan.{Plan}
use Rattle.dispatch.specs.States.{SameState}
use Rattle.dispatch.specs.declared.State.{State}
use Rattle.fullrate.specs.Allowed.{allowed, allowed_below, allowed_set}

module _ (a b : Plan) (s t : State) (plans : SamePlan a b) (states : SameState a s t) where
  -- a task of the plan is allowed in both or in neither
  one_same : (i : ℕ) → i < a.count → allowed a s i ≡ allowed b t i
  one_same i l = rw (states.jobs i l, plans.tasks i l)

  -- and so are the first k
  below_same : (k : ℕ) → k ≤ a.count → allowed_below a s k ≡ allowed_below b t k
  unfolding allowed_below
  below_same zero l = refl
  below_same (suc k) l = rw (one_same k l, below_same k (omega arith))

  -- the same set, members past its count included
  pub allowed_same : allowed_set a s ≡ allowed_set b t
  allowed_same = below_same (min a.count 64) (omega arith) ∙ ap (λ (n : ℕ). allowed_below b t (min n 64)) plans.count
