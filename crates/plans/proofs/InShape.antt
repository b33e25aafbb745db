-- What the plan shape says: every task has pieces in a row, on rising cores, from a first to a last, and their costs add up to its cost.
use mathlib.Core.Path.{◌≡◌, refl, sym, ◌∙◌}
use mathlib.Core.Logic.{◌⊎◌, inl, inr}
use mathlib.Core.Bool.{Bool, true, false, ◌&&◌}
use Prim.Native.Nat.{ℕ, zero, suc, ◌+◌, ◌-◌, ◌≤◌, ◌<◌}
use native.Mathlib.Decide.{dec_le}
use native.Mathlib.Nat.{le_trans}
use native.Mathlib.Omega.{arith}
use lib.Dec.{leb, ltb, eqb}
use borrow.Author.Tests.{eq-eqb, eqb-true, ltb-true, leb-true, not-false}
use Rattle.tasks.proofs.Below.{all_each, any_make, first_holds, first_le, sum_up}
use Rattle.tasks.proofs.Bools.{both}
use Rattle.tasks.specs.Below.{any, first}
use Rattle.tasks.proofs.Tables.{GoodTable, accepted_good, good_accepted}
use Rattle.tasks.specs.Tables.{checked_tasks}
use Rattle.tasks.specs.Answers.{Answer, Accepted, Refused}
use Rattle.tasks.specs.declared.Task.{Task}
use Rattle.tasks.proofs.Answers.{accepted_not}
use Rattle.plans.proofs.Shaped.{Fits, fits_say, follows_says, tasks_refused, shape_refused, shape_accepted}
use Rattle.plans.proofs.Costs.{costs_own, costs_away}
use Rattle.plans.specs.Pieces.{task_of, piece_of, costs, earlier}
use Rattle.plans.specs.Shape.{same_task, in_order, is_last, piece_fits, shape, checked_plan}
use Rattle.plans.specs.declared.Piece.{Piece}
use Rattle.plans.specs.declared.Plan.{Plan}

-- a task's costs rise from piece to piece
costs_up : (pc : ℕ → Piece) (i j k : ℕ) → j ≤ k → costs pc i j ≤ costs pc i k
unfolding costs
costs_up pc i j k h = sum_up j k _ h

module _ (m count : ℕ) (ts : ℕ → Task) (pc : ℕ → Piece) (n : ℕ) (good : shape m count ts pc n ≡ true) where
  pub tests : (leb 1 n ≡ true) × (leb n 128 ≡ true) × ((j : ℕ) → j < n → piece_fits m count ts pc n j ≡ true) × (eqb ((pc (n - 1)).task.0 + 1) count ≡ true)
  unfolding shape
  tests =
      let u = both {a = leb 1 n && leb n 128 && _} good in
      let v = both {a = leb 1 n && leb n 128} u.0 in
      let w = both {a = leb 1 n} v.0 in
      (w.0, w.1, all_each n _ v.1, u.1)

  pub fits : (j : ℕ) → j < n → Fits m count ts pc n j
  fits j h = fits_say m count ts pc n j (tests.2 j h)

  -- a piece that is not its task's last is followed by one of the same task, on a higher core
  pub follower : (j : ℕ) → j < n → is_last pc n j ≡ false → (suc j < n) × ((pc (suc j)).task.0 ≡ (pc j).task.0) × ((pc j).core.0 < (pc (suc j)).core.0)
  unfolding is_last in_order
  follower j h z = (l, e, go (follows_says (pc j) (pc (suc j)) (fits (suc j) l).order))
    where
      t : (ltb (suc j) n ≡ true) × (same_task (pc j) (pc (suc j)) ≡ true)
      t = both (not-false _ z)

      l : suc j < n
      l = ltb-true _ _ t.0

      e : (pc (suc j)).task.0 ≡ (pc j).task.0
      e = sym (eqb-true _ _ t.1)

      go : ((pc (suc j)).task.0 ≡ (pc j).task.0 + 1) ⊎ (((pc (suc j)).task.0 ≡ (pc j).task.0) × ((pc j).core.0 < (pc (suc j)).core.0)) → (pc j).core.0 < (pc (suc j)).core.0
      go (inl q) = absurd (omega (arith, e))
      go (inr q) = q.1

  -- a task's costs up to any of its pieces are within its cost
  pub costs_within : (j : ℕ) → j < n → costs pc (pc j).task.0 (suc j) ≤ (ts (pc j).task.0).cost
  costs_within j h = climb n j h (omega arith)
    where
      climb : (f j : ℕ) → j < n → n ≤ j + f → costs pc (pc j).task.0 (suc j) ≤ (ts (pc j).task.0).cost
      climb zero j h l = absurd (omega arith)
      climb (suc f) j h l = go (is_last pc n j) refl (climb f (suc j))
        where
          go : (b : Bool) → is_last pc n j ≡ b → (suc j < n → n ≤ suc j + f → costs pc (pc (suc j)).task.0 (suc (suc j)) ≤ (ts (pc (suc j)).task.0).cost) → costs pc (pc j).task.0 (suc j) ≤ (ts (pc j).task.0).cost
          go true z ih = omega (arith, (fits j h).full z)
          go false z ih =
              let q : (suc j < n) × ((pc (suc j)).task.0 ≡ (pc j).task.0) × ((pc j).core.0 < (pc (suc j)).core.0) = follower j h z in
              le_trans (costs_up pc (pc j).task.0 (suc j) (suc (suc j)) (omega arith)) (rw q.1 at (ih q.0 (omega arith)))

  -- each task up to that of piece j has a piece among those up to j
  owns : (i j : ℕ) → j < n → i ≤ (pc j).task.0 → any n (λ k. eqb (pc k).task.0 i) ≡ true
  unfolding in_order
  owns i zero h l =
      let z : (pc 0).task.0 ≡ 0 = eqb-true _ _ (fits 0 h).order in
      let e : (pc 0).task.0 ≡ i = omega arith in
      any_make n _ 0 h (eq-eqb _ _ e)
  owns i (suc j) h l = go (dec_le i (pc j).task.0) (follows_says (pc j) (pc (suc j)) (fits (suc j) h).order) (owns i j (omega arith))
    where
      go : Dec (i ≤ (pc j).task.0) → ((pc (suc j)).task.0 ≡ (pc j).task.0 + 1) ⊎ (((pc (suc j)).task.0 ≡ (pc j).task.0) × ((pc j).core.0 < (pc (suc j)).core.0)) → (i ≤ (pc j).task.0 → any n (λ k. eqb (pc k).task.0 i) ≡ true) → any n (λ k. eqb (pc k).task.0 i) ≡ true
      go (yes b) q ih = ih b
      go (no b) (inl q) ih =
          let e : (pc (suc j)).task.0 ≡ i = omega arith in
          any_make n _ (suc j) h (eq-eqb _ _ e)
      go (no b) (inr q) ih = absurd (omega arith)

  -- the first piece of a task
  pub record Begins (i : ℕ) : Type 0 where
    pub known : first n (λ k. eqb (pc k).task.0 i) < n
    pub own : (pc (first n (λ k. eqb (pc k).task.0 i))).task.0 ≡ i
    pub none : costs pc i (first n (λ k. eqb (pc k).task.0 i)) ≡ 0

  pub begins : (i : ℕ) → i < count → Begins i
  begins i h = record { known = l.0; own = eqb-true _ _ l.1; none = costs_away pc i _ (λ j b. go j b _ refl) }
    where
      own : ℕ → Bool
      own k = eqb (pc k).task.0 i

      some : 0 < n
      some = leb-true _ _ tests.0

      l : (first n own < n) × (own (first n own) ≡ true)
      l =
          let e : (pc (n - 1)).task.0 + 1 ≡ count = eqb-true _ _ tests.3 in
          first_holds n own (owns i (n - 1) (omega (arith, some)) (omega arith))

      go : (j : ℕ) → j < first n own → (x : Bool) → own j ≡ x → own j ≡ false
      go j b false t = t
      go j b true t = absurd (omega (arith, first_le n own j (omega (arith, l.0)) t))

  -- a piece and the earlier ones of its task cost at most what the task does
  pub earlier_within : (j : ℕ) → j < n → earlier pc j + (pc j).cost ≤ (ts (pc j).task.0).cost
  earlier_within j h = omega (arith, costs_own pc j, costs_within j h)

-- what an accepted plan is
pub record GoodPlan (p : Plan) : Type 0 where
  pub table : GoodTable p.cores p.count (task_of p)
  pub shaped : shape p.cores p.count (task_of p) (piece_of p) p.placed ≡ true

pub accepted_plan : (p : Plan) → checked_plan p ≡ Accepted → GoodPlan p
unfolding checked_plan
accepted_plan p h = go _ _ refl refl
  where
    go : (a : Answer) (b : Bool) → checked_tasks p.cores p.count (task_of p) ≡ a → shape p.cores p.count (task_of p) (piece_of p) p.placed ≡ b → GoodPlan p
    go (Refused r) b e f = accepted_not (sym (tasks_refused p r e) ∙ h)
    go Accepted false e f = accepted_not (sym (shape_refused p e f) ∙ h)
    go Accepted true e f = record { table = accepted_good _ _ _ e; shaped = f }

pub plan_accepted : (p : Plan) → GoodPlan p → checked_plan p ≡ Accepted
plan_accepted p g = shape_accepted p (good_accepted _ _ _ g.table) g.shaped
