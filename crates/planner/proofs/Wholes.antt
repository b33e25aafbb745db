-- Whole: a task that goes whole to a core that takes it keeps a draft, and an empty core that is open takes every task.
use mathlib.Core.Path.{◌≡◌, refl, sym, ap}
use mathlib.Core.Bool.{true, false, not, ◌||◌}
use Prim.Native.Nat.{ℕ, suc, ◌+◌, ◌-◌, ◌≤◌, ◌<◌}
use native.Mathlib.Decide.{ℕ_discrete}
use native.Mathlib.Nat.{le_refl}
use native.Mathlib.Numerals.{add-one}
use native.Mathlib.Omega.{arith}
use lib.Dec.{leb, eqb}
use lib.ListN.{length}
use borrow.Author.Tests.{eq-eqb, ne_eqb, le-leb, leb-true, not-true}
use Rattle.tasks.proofs.Below.{all_each, all_make, sum_none}
use Rattle.tasks.proofs.Bools.{clash, both, both_make, right_one}
use Rattle.tasks.proofs.Tables.{Ranges}
use Rattle.tasks.specs.Below.{all}
use Rattle.plans.proofs.Rank.{above_apart, above_core, above_self, above_whole}
use Rattle.bounds.specs.Bound.{local_deadline, load, bound}
use Rattle.plans.specs.Pieces.{task_of, piece_of, costs}
use Rattle.plans.specs.Rank.{above}
use Rattle.plans.proofs.SamePlans.{costs_same}
use Rattle.plans.specs.Shape.{is_share}
use Rattle.plans.specs.declared.Kind.{Kind}
use Rattle.plans.specs.declared.Kind.TheVariants.{Whole, Share}
use Rattle.plans.specs.declared.Piece.{Piece}
use Rattle.plans.specs.declared.Plan.{Plan}
use Rattle.planner.specs.Whole.{put, is_closed, whole_piece, keeps_bound, takes_whole}
use Rattle.planner.specs.declared.Draft.{Draft}
use Rattle.planner.proofs.Drafts.{LaidBefore, drafted_room, drafted_put, task_range}
use Rattle.planner.proofs.Laid.{laid_done}
use Rattle.planner.proofs.More.{local_kept}
use Rattle.planner.proofs.Put.{put_old, put_new}

module _ (i : ℕ) (d : Draft) (R : LaidBefore i d) (known : i < d.plan.count) (x : ℕ) where
  z : Piece
  z = whole_piece d.plan i x

  v : Plan
  v = put z d.plan

  inside : d.plan.placed < length d.plan.pieces
  inside = omega (arith, drafted_room i (task_of d.plan i).cost 0 d R (omega arith), R.long)

  r : Ranges (task_of d.plan i)
  r = task_range i (task_of d.plan i).cost 0 d R known

  module _ (here : x < d.plan.cores) (takes : takes_whole d i x ≡ true) where
    tests : (not (is_closed d.closed x) ≡ true) × (all (d.plan.placed + 1) (keeps_bound v x) ≡ true)
    unfolding takes_whole v z put
    tests = both takes

    -- every whole piece there keeps its bound
    tested : (q : ℕ) → q < suc d.plan.placed → (piece_of v q).core.0 ≡ x → (piece_of v q).kind ≡ Whole
        → bound (task_of d.plan) (piece_of v) (suc d.plan.placed) q ≤ local_deadline (task_of d.plan) (piece_of v) q
    unfolding v put
    tested q h c w =
        let t : leb (bound (task_of d.plan) (piece_of v) (d.plan.placed + 1) q) (local_deadline (task_of d.plan) (piece_of v) q) ≡ true = rw (eq-eqb (piece_of v q).core.0 x c, w) at (all_each (d.plan.placed + 1) (keeps_bound v x) tests.1 q (omega arith)) in
        leb-true _ _ (rw add-one at t)

    older : (q : ℕ) → q < d.plan.placed → above (task_of d.plan) z (piece_of d.plan q) ≡ true → (k : Kind) → (piece_of d.plan q).kind ≡ k
        → bound (task_of d.plan) (piece_of v) (suc d.plan.placed) q ≤ local_deadline (task_of d.plan) (piece_of d.plan) q
    unfolding v z
    older q h o Share s = clash o (above_whole (task_of d.plan) z (piece_of d.plan q) refl s)
    older q h o Whole s =
        let c : x ≡ (piece_of d.plan q).core.0 = above_core (task_of d.plan) z (piece_of d.plan q) o in
        rw (local_kept (piece_of d.plan) (piece_of v) d.plan.placed (put_old z d.plan) (task_of d.plan) q h) at (tested q (omega arith) (rw (put_old z d.plan q h) (sym c)) (rw (put_old z d.plan q h) s))

    -- the task is placed, and the core stays open
    pub whole_ready : LaidBefore (suc i) (record { plan = put (whole_piece d.plan i x) d.plan; closed = d.closed })
    unfolding v z put
    whole_ready = drafted_put i (task_of d.plan i).cost 0 d R known z d.closed R.wide (suc i) (task_of d.plan (suc i)).cost 0
        (laid_done _ _ _ _ _ _ i _ 0 R.laid z (piece_of v) (put_old z d.plan) (put_new z d.plan inside) _ (λ c e. e) known refl
        (λ k h e. absurd (omega (arith, (R.laid.shares k h e).1))) here (not-true _ tests.0) r.some (le_refl _) (λ q h b o. older q h o _ refl)
        (tested d.plan.placed (le_refl _) (rw (put_new z d.plan inside)) (rw (put_new z d.plan inside))) refl (omega (arith, R.laid.few)))

  -- no piece is on core x, and it is open
  module _ (free : is_closed d.closed x ≡ false) (empty : (q : ℕ) → q < d.plan.placed → (piece_of d.plan q).core.0 ≡ x → ⊥) where
    n : ℕ
    n = d.plan.placed

    -- then nothing ranks above the task there
    empty_alone : (j : ℕ) → j < suc n → above (task_of d.plan) (piece_of v j) z ≡ false
    unfolding v n z
    empty_alone j h = go (ℕ_discrete j n)
      where
        go : Dec (j ≡ n) → above (task_of d.plan) (piece_of v j) z ≡ false
        go (yes e) = rw (e, put_new z d.plan inside) (above_self (task_of d.plan) z)
        go (no e) = rw (put_old z d.plan j (omega arith)) (above_apart (task_of d.plan) (piece_of d.plan j) z (empty j (omega arith)))

    empty_load : (L : ℕ) → load (task_of d.plan) (piece_of v) (suc n) z L ≡ 0
    unfolding load
    empty_load L = sum_none (suc n) _ (λ j h. rw (empty_alone j h))

    empty_own : bound (task_of d.plan) (piece_of v) (suc n) n ≤ local_deadline (task_of d.plan) (piece_of v) n
    unfolding bound local_deadline v n z
    empty_own = rw (put_new z d.plan inside) (omega (arith, empty_load ((task_of d.plan i).deadline - costs (piece_of v) i n), costs_same (piece_of v) (piece_of d.plan) n (put_old z d.plan) i n (le_refl n), R.laid.left, r.short))

    -- an empty core takes every task whole
    pub empty_takes : takes_whole d i x ≡ true
    unfolding takes_whole put v z n
    empty_takes = both_make (ap not free) (all_make (d.plan.placed + 1) (keeps_bound v x) (λ q h. each q h (ℕ_discrete q n)))
      where
        each : (q : ℕ) → q < d.plan.placed + 1 → Dec (q ≡ n) → keeps_bound v x q ≡ true
        each q h (yes e) =
            let o : bound (task_of d.plan) (piece_of v) (d.plan.placed + 1) q ≤ local_deadline (task_of d.plan) (piece_of v) q = rw (e, add-one) empty_own in
            right_one (not (eqb (piece_of v q).core.0 x) || is_share (piece_of v q).kind) (le-leb _ _ o)
        each q h (no e) =
            let c : (piece_of v q).core.0 ≡ x → ⊥ = λ p. empty q (omega arith) (rw (put_old z d.plan q (omega arith)) at p) in
            rw (ne_eqb (piece_of v q).core.0 x c)
