-- Shares keep a draft: each is within its core's limit, and one that is not its task's last closes its core.
use mathlib.Core.Path.{◌≡◌, refl, sym, ◌∙◌}
use mathlib.Core.Bool.{Bool, true, false}
use mathlib.Core.List.{List}
use Prim.Native.Nat.{ℕ, suc, ◌+◌, ◌-◌, ◌/◌, ◌≤◌, ◌<◌}
use native.Mathlib.Decide.{ℕ_discrete}
use native.Mathlib.Nat.{le_refl, le_trans}
use native.Mathlib.Omega.{arith}
use lib.ListN.{length, set, length-set}
use lib.Seq.{get_or-set_same}
use Rattle.tasks.proofs.Below.{sum_none}
use Rattle.tasks.proofs.Tables.{Ranges}
use Rattle.tasks.specs.Tables.{task_no, core_no}
use Rattle.tasks.specs.declared.Task.{Task}
use Rattle.plans.proofs.Rank.{above_core, above_share}
use Rattle.bounds.specs.Bound.{local_deadline, load, bound}
use Rattle.plans.specs.Interference.{periods}
use Rattle.plans.specs.Pieces.{task_of, piece_of, costs}
use Rattle.plans.specs.Rank.{above}
use Rattle.plans.specs.declared.Kind.TheVariants.{Share}
use Rattle.plans.specs.declared.Piece.{Piece}
use Rattle.planner.specs.Limit.{allowance, limit}
use Rattle.planner.specs.Shared.{give_share, close}
use Rattle.planner.specs.Whole.{put, is_closed}
use Rattle.planner.specs.declared.Draft.{Draft}
use Rattle.planner.proofs.Drafts.{Drafted, LaidBefore, drafted_room, drafted_put, task_range}
use Rattle.planner.proofs.Laid.{laid_part, laid_done, close_one, open_cores, share_fits}
use Rattle.planner.proofs.Limits.{limit_le}
use Rattle.plans.proofs.SamePlans.{costs_same}
use Rattle.planner.proofs.More.{bound_grows}
use Rattle.planner.proofs.Put.{put_old, put_new, close_stays}

-- a new share z of the latest task
module _ (ts : ℕ → Task) (pc pc' : ℕ → Piece) (n : ℕ) (same : (j : ℕ) → j < n → pc' j ≡ pc j) (z : Piece) (new : pc' n ≡ z) (kind : z.kind ≡ Share) (low : (q : ℕ) → q < n → (pc q).task.0 ≤ z.task.0) where
  -- nothing ranks above it
  share_alone : (j : ℕ) → j < suc n → above ts (pc' j) z ≡ false
  share_alone j h = go (ℕ_discrete j n)
    where
      go : Dec (j ≡ n) → above ts (pc' j) z ≡ false
      go (yes e) = rw (e, new) (above_share ts z z kind (le_refl _))
      go (no e) = rw (same j (omega arith)) (above_share ts (pc j) z kind (low j (omega arith)))

  share_load : (L : ℕ) → load ts pc' (suc n) z L ≡ 0
  unfolding load
  share_load L = sum_none (suc n) _ (λ j h. rw (share_alone j h))

  -- its bound is its cost, which its local deadline holds
  share_own : (need : ℕ) → costs pc z.task.0 n + need ≡ (ts z.task.0).cost → z.cost ≤ need → (ts z.task.0).cost ≤ (ts z.task.0).deadline → bound ts pc' (suc n) n ≤ local_deadline ts pc' n
  unfolding bound local_deadline
  share_own need left fits short = rw new (omega (arith, share_load ((ts z.task.0).deadline - costs pc' z.task.0 n), costs_same pc' pc n same z.task.0 n (le_refl n)))

  -- it adds at most the margin to a piece that allows it
  share_older : 0 < (ts z.task.0).period → z.cost ≤ (ts z.task.0).period
      → ((q : ℕ) → q < n → (pc q).core.0 ≡ z.core.0 → z.cost ≤ (local_deadline ts pc q - bound ts pc n q) / periods (ts z.task.0).period (local_deadline ts pc q))
      → (q : ℕ) → q < n → bound ts pc n q ≤ local_deadline ts pc q → above ts z (pc q) ≡ true → bound ts pc' (suc n) q ≤ local_deadline ts pc q
  share_older pos fits allowed q h b o = omega (
    arith,
    rw (new, o) at (bound_grows pc pc' n same ts q h),
    share_fits z.cost (ts z.task.0).period (local_deadline ts pc q) (bound ts pc n q) pos fits b (allowed q h (sym (above_core ts z (pc q) o))),
  )

-- ---- a share of task i on core x, which is open, of size y within its limit
module _ (i need x : ℕ) (d : Draft) (D : Drafted i need x d) (known : i < d.plan.count) (here : x < d.plan.cores) (free : is_closed d.closed x ≡ false)
    (y : ℕ) (positive : 1 ≤ y) (fits : y ≤ need) (allowed : y ≤ limit d.plan (task_of d.plan i).period x) where
  z : Piece
  z = record { task = task_no i; core = core_no x; kind = Share; cost = y }

  inside : d.plan.placed < length d.plan.pieces
  inside = omega (arith, drafted_room i need x d D (omega arith), D.long)

  r : Ranges (task_of d.plan i)
  r = task_range i need x d D known

  own : bound (task_of d.plan) (piece_of (put z d.plan)) (suc d.plan.placed) d.plan.placed ≤ local_deadline (task_of d.plan) (piece_of (put z d.plan)) d.plan.placed
  unfolding z
  own = share_own (task_of d.plan) (piece_of d.plan) (piece_of (put z d.plan)) d.plan.placed (put_old z d.plan) z (put_new z d.plan inside) refl D.laid.rising need D.laid.left fits r.short

  older : (q : ℕ) → q < d.plan.placed → bound (task_of d.plan) (piece_of d.plan) d.plan.placed q ≤ local_deadline (task_of d.plan) (piece_of d.plan) q → above (task_of d.plan) z (piece_of d.plan q) ≡ true
      → bound (task_of d.plan) (piece_of (put z d.plan)) (suc d.plan.placed) q ≤ local_deadline (task_of d.plan) (piece_of d.plan) q
  unfolding z allowance
  older = share_older (task_of d.plan) (piece_of d.plan) (piece_of (put z d.plan)) d.plan.placed (put_old z d.plan) z (put_new z d.plan inside) refl D.laid.rising
      (omega (arith, r.some, r.short, r.inside)) (omega (arith, D.laid.left, r.short, r.inside))
      (λ q h e. le_trans allowed (limit_le d.plan (task_of d.plan i).period x d.plan.placed q h e))

  alone : (j : ℕ) → j < suc d.plan.placed → above (task_of d.plan) (piece_of (put z d.plan) j) z ≡ false
  unfolding z
  alone = share_alone (task_of d.plan) (piece_of d.plan) (piece_of (put z d.plan)) d.plan.placed (put_old z d.plan) z (put_new z d.plan inside) refl D.laid.rising

  -- closing core x keeps the closed ones
  stays : (c : ℕ) → is_closed d.closed c ≡ true → is_closed (set d.closed x true) c ≡ true
  stays c e = close_stays d.closed x c (omega (arith, D.wide, D.good.cores.1)) e

  shut : is_closed (set d.closed x true) x ≡ true
  shut = get_or-set_same d.closed x true false (omega (arith, D.wide, D.good.cores.1))

  -- a share below need: the core is closed, and need falls by it
  pub part_drafted : Drafted i (need - y) (x + 1) (close (give_share d i x y) x)
  unfolding close give_share z
  part_drafted = drafted_put i need x d D known z (set d.closed x true) (length-set d.closed x true ∙ D.wide) i (need - y) (x + 1)
      (laid_part _ _ _ _ _ _ i need x D.laid z _ (put_old z d.plan) (put_new z d.plan inside) _ stays known refl (λ k h e. (refl, le_refl x)) here free positive fits older own refl refl shut alone)

  module _ (all : y ≡ need) where
    done : (closed : List Bool) → length closed ≡ 16 → ((c : ℕ) → is_closed d.closed c ≡ true → is_closed closed c ≡ true) → open_cores d.plan.cores (is_closed closed) ≤ open_cores d.plan.cores (is_closed d.closed)
        → LaidBefore (suc i) (record { plan = put z d.plan; closed = closed })
    unfolding put z
    done closed wide keeps less = drafted_put i need x d D known z closed wide (suc i) (task_of d.plan (suc i)).cost 0
        (laid_done _ _ _ _ _ _ i need x D.laid z _ (put_old z d.plan) (put_new z d.plan inside) _ keeps known refl (λ k h e. (refl, le_refl x)) here free positive fits older own all (omega (arith, D.laid.few, less)))

    -- the limit exceeds need: the core stays open
    pub fit_ready : LaidBefore (suc i) (give_share d i x y)
    unfolding give_share z
    fit_ready = done d.closed D.wide (λ c e. e) (le_refl _)

    -- the limit equals need: the core is closed
    pub fill_ready : LaidBefore (suc i) (close (give_share d i x y) x)
    unfolding close give_share z
    fill_ready = done (set d.closed x true) (length-set d.closed x true ∙ D.wide) stays
        (omega (arith, close_one d.plan.cores (is_closed d.closed) (is_closed (set d.closed x true)) x here free shut stays))
