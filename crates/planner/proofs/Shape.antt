-- The pieces of a draft in which every task is laid out have the plan shape.
use mathlib.Core.Path.{◌≡◌, refl, sym, ap, ◌∙◌}
use mathlib.Core.Bool.{Bool, true, false}
use Prim.Native.Nat.{ℕ, zero, suc, ◌+◌, ◌-◌, ◌≤◌, ◌<◌}
use native.Mathlib.Decide.{ℕ_discrete}
use native.Mathlib.Omega.{arith}
use borrow.Author.Tests.{eq-eqb, ne_eqb, lt-ltb, le-leb}
use Rattle.tasks.proofs.Below.{all_make}
use Rattle.tasks.proofs.Bools.{clash, both_make}
use Rattle.tasks.specs.Below.{sum}
use Rattle.tasks.specs.declared.Task.{Task}
use Rattle.plans.proofs.Shaped.{tasks_rise, more_fits, last_fits}
use Rattle.plans.specs.Pieces.{costs}
use Rattle.plans.specs.Shape.{in_order, is_last, piece_fits, shape}
use Rattle.plans.specs.declared.Piece.{Piece}
use Rattle.planner.proofs.Laid.{Laid, begun}

-- numbers from a on that are 0 add nothing
sum_flat : (a b : ℕ) (f : ℕ → ℕ) → a ≤ b → ((k : ℕ) → a ≤ k → k < b → f k ≡ 0) → sum b f ≡ sum a f
unfolding sum
sum_flat a zero f h z = let e : a ≡ 0 = omega arith in rw e
sum_flat a (suc b) f h z = go (ℕ_discrete a (suc b)) (sum_flat a b f)
  where
    go : Dec (a ≡ suc b) → (a ≤ b → ((k : ℕ) → a ≤ k → k < b → f k ≡ 0) → sum b f ≡ sum a f) → sum b f + f b ≡ sum a f
    go (yes e) ih = rw e
    go (no e) ih = omega (arith, ih (omega arith) (λ k l m. z k l (omega arith)), z b (omega arith) (omega arith))

module _ (pc : ℕ → Piece) (n : ℕ) (ordered : (j : ℕ) → j < n → in_order pc j ≡ true) where
  -- after a task's last piece the tasks are later ones
  after_last : (j k : ℕ) → is_last pc n j ≡ true → suc j ≤ k → k < n → (pc j).task.0 < (pc k).task.0
  unfolding is_last
  after_last j k z h l = omega (arith, other, tasks_rise pc n ordered j (suc j) (omega arith) (omega arith), tasks_rise pc n ordered (suc j) k h l)
    where
      other : (pc j).task.0 ≡ (pc (suc j)).task.0 → ⊥
      other e = clash z (rw (lt-ltb (suc j) n (omega arith), eq-eqb (pc j).task.0 (pc (suc j)).task.0 e))

  -- so up to it all of the task's costs are added up
  pub last_costs : (j : ℕ) → j < n → is_last pc n j ≡ true → costs pc (pc j).task.0 (suc j) ≡ costs pc (pc j).task.0 n
  unfolding costs
  last_costs j h z = sym (sum_flat (suc j) n _ h (λ k l m. rw (ne_eqb (pc k).task.0 (pc j).task.0 (λ e. omega (arith, after_last j k z l m)))))

module _ (m count : ℕ) (ts : ℕ → Task) (pc : ℕ → Piece) (n : ℕ) (shut : ℕ → Bool) (need : ℕ) (L : Laid m count ts pc n shut count need 0) where
  laid_piece : (j : ℕ) → j < n → piece_fits m count ts pc n j ≡ true
  laid_piece j h = go _ refl
    where
      go : (b : Bool) → is_last pc n j ≡ b → piece_fits m count ts pc n j ≡ true
      go false z = more_fits m count ts pc n j (L.owned j h) (L.core j h) (L.some j h) (L.order j h) z
      go true z = last_fits m count ts pc n j (L.owned j h) (L.core j h) (L.some j h) (L.order j h) z ∙ eq-eqb _ _ (last_costs pc n L.order j h z ∙ L.full _ (L.owned j h))

  -- the last piece is the last task's
  laid_ends : (k : ℕ) → n ≡ k → 1 ≤ count → (1 ≤ k) × ((pc (k - 1)).task.0 + 1 ≡ count)
  unfolding begun
  laid_ends zero e h = let r : count ≤ begun pc 0 = rw e at L.reached in absurd (omega arith)
  laid_ends (suc k) e h =
      let r : count ≤ begun pc (suc k) = rw e at L.reached in
      let f : (pc (suc k - 1)).task.0 ≡ (pc k).task.0 = ap (λ (j : ℕ). (pc j).task.0) (omega arith) in
      (omega arith, omega (arith, L.owned k (omega arith)))

  pub laid_shape : 1 ≤ count → n ≤ 128 → shape m count ts pc n ≡ true
  unfolding shape
  laid_shape h most =
      let e : (1 ≤ n) × ((pc (n - 1)).task.0 + 1 ≡ count) = laid_ends n refl h in
      both_make (both_make (both_make (le-leb 1 n e.0) (le-leb n 128 most)) (all_make n (piece_fits m count ts pc n) laid_piece)) (eq-eqb _ _ e.1)
