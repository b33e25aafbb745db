-- A core's limit is within what each of its pieces allows.
use mathlib.Core.Path.{◌≡◌, refl}
use mathlib.Core.Bool.{Bool, true, false, cond}
use Prim.Native.Nat.{ℕ, zero, suc, ◌≤◌, ◌<◌, min}
use native.Mathlib.Decide.{ℕ_discrete}
use native.Mathlib.Omega.{arith}
use lib.Dec.{eqb}
use borrow.Author.Tests.{eqb-false}
use Rattle.plans.specs.Pieces.{piece_of}
use Rattle.plans.specs.declared.Plan.{Plan}
use Rattle.planner.specs.Limit.{allowance, limit_of}

pub limit_le : (w : Plan) (p x n q : ℕ) → q < n → (piece_of w q).core.0 ≡ x → limit_of w p x n ≤ allowance w p q
unfolding limit_of
limit_le w p x zero q h e = absurd (omega arith)
limit_le w p x (suc n) q h e = go _ refl (ℕ_discrete q n) (λ l. limit_le w p x n q l e)
  where
    go : (b : Bool) → eqb (piece_of w n).core.0 x ≡ b → Dec (q ≡ n) → (q < n → limit_of w p x n ≤ allowance w p q)
        → cond b (min (limit_of w p x n) (allowance w p n)) (limit_of w p x n) ≤ allowance w p q
    go true u (yes k) ih = rw k (omega arith)
    go true u (no k) ih = omega (arith, ih (omega arith))
    go false u (yes k) ih = absurd (eqb-false _ _ u (rw k at e))
    go false u (no k) ih = ih (omega arith)
