-- What a piece allows, and a core's limit, one piece more at a time.
use mathlib.Core.Path.{◌≡◌, refl, sym}
use Prim.Native.Nat.{ℕ, ◌+◌, ◌-◌, ◌≤◌, ◌<◌, min}
use native.Mathlib.Nat.{zero-div, div-eq_of_lt-le}
use Rattle.std.specs.Int.{div_ceil}
use Rattle.std.proofs.lemmas.Grind.{div_ceil_times}
use Rattle.plans.specs.Interference.{periods}
use native.Mathlib.Numerals.{add-one}
use native.Mathlib.Omega.{arith}
use borrow.Author.Tests.{eq-eqb, ne_eqb}
use Rattle.bounds.specs.Bound.{local_deadline, bound}
use Rattle.plans.specs.Pieces.{task_of, piece_of}
use Rattle.plans.specs.declared.Plan.{Plan}
use Rattle.planner.proofs.Limits.{limit_le}
use Rattle.planner.specs.Limit.{allowance, limit_of}

-- how often a period fits into a length, rounded up
pub periods_is : (p L : ℕ) → 0 < p → div_ceil L p ≡ periods p L
unfolding periods
periods_is p L h = sym (div-eq_of_lt-le {k = div_ceil L p} p (omega (arith, div_ceil_times L p h)) (omega (arith, div_ceil_times L p h)))

-- a piece without a margin allows nothing
pub no_margin : (w : Plan) (p q : ℕ) → local_deadline (task_of w) (piece_of w) q ≤ bound (task_of w) (piece_of w) w.placed q → allowance w p q ≡ 0
unfolding allowance
no_margin w p q h =
    let e : local_deadline (task_of w) (piece_of w) q - bound (task_of w) (piece_of w) w.placed q ≡ 0 = omega arith in
    rw e (zero-div _)

module _ (w : Plan) (p x : ℕ) where
  pub limit_start : limit_of w p x 0 ≡ 1000000
  unfolding limit_of
  limit_start = refl

  -- the next piece is on another core
  pub limit_other : (q : ℕ) → ((piece_of w q).core.0 ≡ x → ⊥) → limit_of w p x (q + 1) ≡ limit_of w p x q
  unfolding limit_of
  limit_other q h = rw (add-one, limit_of, ne_eqb (piece_of w q).core.0 x h)

  -- the next piece is on the core
  pub limit_here : (q : ℕ) → (piece_of w q).core.0 ≡ x → limit_of w p x (q + 1) ≡ min (limit_of w p x q) (allowance w p q)
  unfolding limit_of
  limit_here q h = rw (add-one, limit_of, eq-eqb (piece_of w q).core.0 x h)

  -- a piece on the core that allows nothing makes the limit 0
  pub limit_nothing : (q n : ℕ) → q < n → (piece_of w q).core.0 ≡ x → allowance w p q ≡ 0 → limit_of w p x n ≡ 0
  limit_nothing q n l h e = omega (arith, limit_le w p x n q l h)
