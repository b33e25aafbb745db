-- One piece more: what adding it does to costs, bounds and the order of the pieces that are there.
use mathlib.Core.Path.{◌≡◌, ap}
use mathlib.Core.Logic.{◌⊎◌, inl, inr}
use mathlib.Core.Bool.{true, false, not, ◌&&◌, cond}
use Prim.Native.Nat.{ℕ, suc, ◌+◌, ◌-◌, ◌<◌}
use native.Mathlib.Decide.{dec_lt}
use native.Mathlib.Omega.{arith}
use lib.Dec.{ltb, eqb}
use borrow.Author.Tests.{eqb-true, lt-ltb, not-false}
use Rattle.tasks.proofs.Below.{sum_same}
use Rattle.tasks.proofs.Bools.{both}
use Rattle.tasks.specs.Below.{sum}
use Rattle.tasks.specs.declared.Task.{Task}
use Rattle.bounds.specs.Bound.{local_deadline, load, bound}
use Rattle.plans.specs.Interference.{interference}
use Rattle.plans.specs.Pieces.{costs}
use Rattle.plans.specs.Rank.{above}
use Rattle.plans.specs.Shape.{same_task, is_last}
use Rattle.plans.proofs.SamePlans.{costs_same}
use Rattle.plans.specs.declared.Piece.{Piece}

module _ (pc pc' : ℕ → Piece) (n : ℕ) (same : (j : ℕ) → j < n → pc' j ≡ pc j) where
  -- the new piece's cost is its task's
  pub costs_more : (i : ℕ) → costs pc' i (suc n) ≡ costs pc i n + cond (eqb (pc' n).task.0 i) (pc' n).cost 0
  unfolding costs sum
  costs_more i = ap (λ (x : ℕ). x + cond (eqb (pc' n).task.0 i) (pc' n).cost 0) (sum_same n _ _ (λ k l. ap (λ (x : Piece). cond (eqb x.task.0 i) x.cost 0) (same k l)))

  -- what was not its task's last stays so, and the new piece may go on with the task of the piece before it
  pub last_new : (k : ℕ) → k < n → is_last pc' (suc n) k ≡ false → (is_last pc n k ≡ false) ⊎ ((pc k).task.0 ≡ (pc' n).task.0)
  unfolding is_last
  last_new k h e = go (dec_lt (suc k) n)
    where
      b : (ltb (suc k) (suc n) ≡ true) × (same_task (pc' k) (pc' (suc k)) ≡ true)
      b = both (not-false _ e)

      go : Dec (suc k < n) → (not (ltb (suc k) n && same_task (pc k) (pc (suc k))) ≡ false) ⊎ ((pc k).task.0 ≡ (pc' n).task.0)
      go (yes l) = inl (rw (lt-ltb _ _ l) (rw (lt-ltb (suc k) (suc n) (omega arith), same k h, same (suc k) l) at e))
      go (no l) =
          let m : suc k ≡ n = omega arith in
          inr (rw (m, same k h) at (eqb-true (pc' k).task.0 (pc' (suc k)).task.0 b.1))

  module _ (ts : ℕ → Task) where
    pub local_kept : (q : ℕ) → q < n → local_deadline ts pc' q ≡ local_deadline ts pc q
    unfolding local_deadline
    local_kept q h = rw (same q h) (ap (λ (x : ℕ). (ts (pc q).task.0).deadline - x) (costs_same pc' pc n same _ q (omega arith)))

    load_more : (b : Piece) (L : ℕ) → load ts pc' (suc n) b L ≡ load ts pc n b L + cond (above ts (pc' n) b) (interference (pc' n).cost (ts (pc' n).task.0).period L) 0
    unfolding load sum
    load_more b L = ap (λ (x : ℕ). x + cond (above ts (pc' n) b) (interference (pc' n).cost (ts (pc' n).task.0).period L) 0) (sum_same n _ _ (λ k l. ap (λ (x : Piece). cond (above ts x b) (interference x.cost (ts x.task.0).period L) 0) (same k l)))

    -- the bound of an older piece rises by the interference of the new one, if that is above it
    pub bound_grows : (q : ℕ) → q < n → bound ts pc' (suc n) q ≡ bound ts pc n q + cond (above ts (pc' n) (pc q)) (interference (pc' n).cost (ts (pc' n).task.0).period (local_deadline ts pc q)) 0
    unfolding bound
    bound_grows q h = rw (local_kept q h, same q h) (omega (arith, load_more (pc q) (local_deadline ts pc q)))
