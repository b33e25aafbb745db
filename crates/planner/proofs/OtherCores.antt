-- A piece put on one core changes no other core's limit.
use mathlib.Core.Path.{◌≡◌, refl, sym, ap, ◌∙◌}
use mathlib.Core.Bool.{Bool, true, false, cond}
use Prim.Native.Nat.{ℕ, zero, suc, ◌+◌, ◌-◌, ◌/◌, ◌≤◌, ◌<◌, min}
use native.Mathlib.Numerals.{add-one}
use native.Mathlib.Omega.{arith}
use lib.Dec.{eqb}
use lib.ListN.{length}
use borrow.Author.Tests.{eqb-true}
use Rattle.bounds.specs.Bound.{local_deadline, bound}
use Rattle.plans.proofs.Rank.{above_apart}
use Rattle.plans.specs.Interference.{periods, interference}
use Rattle.plans.specs.Pieces.{task_of, piece_of}
use Rattle.plans.specs.Rank.{above}
use Rattle.plans.specs.declared.Piece.{Piece}
use Rattle.plans.specs.declared.Plan.{Plan}
use Rattle.planner.proofs.Allowed.{limit_other}
use Rattle.planner.proofs.More.{local_kept, bound_grows}
use Rattle.planner.proofs.Put.{put_old, put_new}
use Rattle.planner.specs.Limit.{allowance, limit_of, limit}
use Rattle.planner.specs.Whole.{put}

-- the same local deadline and the same bound allow the same
allows_same : (p D D' b b' : ℕ) → D ≡ D' → b ≡ b' → (D - b) / periods p D ≡ (D' - b') / periods p D'
allows_same p D D' b b' e f = rw (e, f)

module _ (z : Piece) (w : Plan) (room : w.placed < length w.pieces) where
  -- the bound of a piece on another core stays
  bound_kept : (q : ℕ) → q < w.placed → ((piece_of w q).core.0 ≡ z.core.0 → ⊥) → bound (task_of w) (piece_of (put z w)) (suc w.placed) q ≡ bound (task_of w) (piece_of w) w.placed q
  bound_kept q h away = bound_grows (piece_of w) (piece_of (put z w)) w.placed (put_old z w) (task_of w) q h ∙ rest
    where
      none : above (task_of w) (piece_of (put z w) w.placed) (piece_of w q) ≡ false
      none = rw (put_new z w room) (above_apart (task_of w) z (piece_of w q) (λ e. away (omega arith)))

      rest : bound (task_of w) (piece_of w) w.placed q + cond (above (task_of w) (piece_of (put z w) w.placed) (piece_of w q)) (interference (piece_of (put z w) w.placed).cost (task_of w (piece_of (put z w) w.placed).task.0).period (local_deadline (task_of w) (piece_of w) q)) 0 ≡ bound (task_of w) (piece_of w) w.placed q
      rest = rw none (omega arith)

  -- and what it allows
  allowance_kept : (p q : ℕ) → q < w.placed → ((piece_of w q).core.0 ≡ z.core.0 → ⊥) → allowance (put z w) p q ≡ allowance w p q
  unfolding allowance put
  allowance_kept p q h away = rw add-one (allows_same p _ _ _ _ (local_kept (piece_of w) (piece_of (put z w)) w.placed (put_old z w) (task_of w) q h) (bound_kept q h away))

  -- and the least of it over the older pieces
  limits_kept : (p x n : ℕ) → n ≤ w.placed → (x ≡ z.core.0 → ⊥) → limit_of (put z w) p x n ≡ limit_of w p x n
  unfolding limit_of
  limits_kept p x zero h away = refl
  limits_kept p x (suc q) h away = go _ refl (limits_kept p x q (omega arith) away)
    where
      go : (b : Bool) → eqb (piece_of w q).core.0 x ≡ b → limit_of (put z w) p x q ≡ limit_of w p x q
          → cond (eqb (piece_of (put z w) q).core.0 x) (min (limit_of (put z w) p x q) (allowance (put z w) p q)) (limit_of (put z w) p x q) ≡ cond (eqb (piece_of w q).core.0 x) (min (limit_of w p x q) (allowance w p q)) (limit_of w p x q)
      go true e ih = rw (put_old z w q h, e, ih, allowance_kept p q h (λ r. away (omega (arith, eqb-true (piece_of w q).core.0 x e))))
      go false e ih = rw (put_old z w q h, e, ih)

  -- so another core's limit stays
  pub limit_kept : (p x : ℕ) → (x ≡ z.core.0 → ⊥) → limit (put z w) p x ≡ limit w p x
  unfolding put
  limit_kept p x away = limit_other (put z w) p x w.placed (λ e. away (sym e ∙ ap (λ (u : Piece). u.core.0) (put_new z w room))) ∙ limits_kept p x w.placed (omega arith) away
