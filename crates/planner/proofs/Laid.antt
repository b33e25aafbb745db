-- What holds of pieces while a table is laid out, and that it still holds with one piece more.
-- Pieces are a function of their place and a count, and closed cores a test.
use mathlib.Core.Path.{◌≡◌, refl, sym, ap, ◌∙◌}
use mathlib.Core.Logic.{◌⊎◌, inl, inr}
use mathlib.Core.Bool.{Bool, true, false, not, cond}
use Prim.Native.Nat.{ℕ, zero, suc, ◌+◌, ◌-◌, ◌/◌, ◌≤◌, ◌<◌}
use native.Mathlib.Decide.{ℕ_discrete}
use native.Mathlib.Nat.{le_refl, div-mul-le_self, mul-le-mul_right}
use native.Mathlib.Omega.{arith}
use lib.Dec.{eqb}
use borrow.Author.Tests.{eq-eqb, ne_eqb, lt-ltb}
use Rattle.tasks.proofs.Below.{sum_add, sum_member, sum_none}
use Rattle.tasks.proofs.Bools.{clash}
use Rattle.tasks.specs.Below as below
use Rattle.tasks.specs.declared.Task.{Task}
use Rattle.plans.proofs.Interference.{within_periods}
use Rattle.plans.proofs.Rank.{above_core}
use Rattle.plans.proofs.SamePlans.{order_same}
use Rattle.plans.proofs.Shaped.{next_follows, same_follows, last_end}
use Rattle.bounds.specs.Bound.{local_deadline, bound}
use Rattle.plans.specs.Interference.{interference, periods}
use Rattle.plans.specs.Pieces.{costs}
use Rattle.plans.specs.Rank.{above}
use Rattle.plans.specs.Shape.{follows, in_order, is_last}
use Rattle.plans.specs.declared.Kind.TheVariants.{Share}
use Rattle.plans.specs.declared.Piece.{Piece}
use Rattle.planner.proofs.More.{costs_more, last_new, local_kept, bound_grows}

-- how many tasks the first n pieces begin
unfoldable pub begun : (ℕ → Piece) → ℕ → ℕ
begun pc zero = 0
begun pc (suc k) = (pc k).task.0 + 1

-- how many of m cores are open
unfoldable pub open_cores : ℕ → (ℕ → Bool) → ℕ
open_cores m shut = below.count m (λ x. not (shut x))

-- closing a core that is open leaves one less
pub close_one : (m : ℕ) (shut shut' : ℕ → Bool) (x : ℕ) → x < m → shut x ≡ false → shut' x ≡ true → ((y : ℕ) → shut y ≡ true → shut' y ≡ true) → open_cores m shut' + 1 ≤ open_cores m shut
unfolding open_cores below.count
close_one m shut shut' x h before after stays = omega (arith, sum_add m (λ y. cond (not (shut' y)) 1 0) (λ y. cond (eqb y x) 1 0) (λ y. cond (not (shut y)) 1 0) each, one)
  where
    each : (y : ℕ) → y < m → cond (not (shut' y)) 1 0 + cond (eqb y x) 1 0 ≤ cond (not (shut y)) 1 0
    each y l = go (ℕ_discrete y x)
      where
        by : (b c : Bool) → shut y ≡ b → shut' y ≡ c → cond (not c) 1 0 ≤ cond (not b) 1 0
        by true true p q = le_refl _
        by true false p q = clash (stays y p) q
        by false true p q = omega arith
        by false false p q = le_refl _

        go : Dec (y ≡ x) → cond (not (shut' y)) 1 0 + cond (eqb y x) 1 0 ≤ cond (not (shut y)) 1 0
        go (yes e) = rw (e, eq-eqb x x refl, before, after) (omega arith)
        go (no e) = rw (ne_eqb y x e) (omega (arith, by _ _ refl refl))

    one : 1 ≤ below.sum m (λ y. cond (eqb y x) 1 0)
    one = rw (eq-eqb x x refl) at (sum_member m (λ y. cond (eqb y x) 1 0) x h)

-- a share within floor(margin / ceil(D / p)) adds at most the margin
pub share_fits : (y p D b : ℕ) → 0 < p → y ≤ p → b ≤ D → y ≤ (D - b) / periods p D → b + interference y p D ≤ D
share_fits y p D b pos fits h l = omega (arith, within_periods y p pos fits D, mul-le-mul_right (periods p D) l, div-mul-le_self (D - b) (periods p D))

-- piece k is on a closed core, and nothing ranks above it
pub record Top (ts : ℕ → Task) (pc : ℕ → Piece) (n : ℕ) (shut : ℕ → Bool) (k : ℕ) : Type 0 where
  pub closed : shut (pc k).core.0 ≡ true
  pub alone : (j : ℕ) → j < n → above ts (pc j) (pc k) ≡ false

-- the tasks before i are laid out; task i has shares on top of closed cores below x, and `need` of its cost is still to be placed
pub record Laid (m count : ℕ) (ts : ℕ → Task) (pc : ℕ → Piece) (n : ℕ) (shut : ℕ → Bool) (i need x : ℕ) : Type 0 where
  -- every piece but the last of each task has closed a core
  pub few : n + open_cores m shut ≤ i + m
  pub rising : (q : ℕ) → q < n → (pc q).task.0 ≤ i
  pub owned : (q : ℕ) → q < n → (pc q).task.0 < count
  pub core : (q : ℕ) → q < n → (pc q).core.0 < m
  pub some : (q : ℕ) → q < n → 1 ≤ (pc q).cost
  pub order : (q : ℕ) → q < n → in_order pc q ≡ true
  pub reached : i ≤ begun pc n
  pub full : (k : ℕ) → k < i → costs pc k n ≡ (ts k).cost
  pub left : costs pc i n + need ≡ (ts i).cost
  -- every piece has a bound within its local deadline
  pub within : (q : ℕ) → q < n → bound ts pc n q ≤ local_deadline ts pc q
  -- a piece that is not its task's last is on top of a closed core
  pub tops : (k : ℕ) → k < n → is_last pc n k ≡ false → Top ts pc n shut k
  pub mine : (k : ℕ) → k < n → (pc k).task.0 ≡ i → Top ts pc n shut k
  pub shares : (k : ℕ) → k < n → (pc k).task.0 ≡ i → ((pc k).kind ≡ Share) × ((pc k).core.0 < x)

-- no piece is there at the start
pub laid_start : (m count : ℕ) (ts : ℕ → Task) (pc : ℕ → Piece) (shut : ℕ → Bool) → open_cores m shut ≤ m → Laid m count ts pc 0 shut 0 (ts 0).cost 0
unfolding costs below.sum
laid_start m count ts pc shut h = record {
  few = omega arith;
  rising = λ q l. absurd (omega arith);
  owned = λ q l. absurd (omega arith);
  core = λ q l. absurd (omega arith);
  some = λ q l. absurd (omega arith);
  order = λ q l. absurd (omega arith);
  reached = omega arith;
  full = λ k l. absurd (omega arith);
  left = omega arith;
  within = λ q l. absurd (omega arith);
  tops = λ q l. absurd (omega arith);
  mine = λ q l. absurd (omega arith);
  shares = λ q l. absurd (omega arith);
}

module _ (m count : ℕ) (ts : ℕ → Task) (pc : ℕ → Piece) (n : ℕ) (shut : ℕ → Bool) (i need x : ℕ) (L : Laid m count ts pc n shut i need x) where
  -- a core that is skipped
  pub laid_skip : Laid m count ts pc n shut i need (x + 1)
  laid_skip = record {
    few = L.few;
    rising = L.rising;
    owned = L.owned;
    core = L.core;
    some = L.some;
    order = L.order;
    reached = L.reached;
    full = L.full;
    left = L.left;
    within = L.within;
    tops = L.tops;
    mine = L.mine;
    shares = λ k h e. ((L.shares k h e).0, omega (arith, (L.shares k h e).1));
  }

  -- one piece more of task i, the new one z, on an open core at x or above
  module _ (z : Piece) (pc' : ℕ → Piece) (same : (j : ℕ) → j < n → pc' j ≡ pc j) (new : pc' n ≡ z) (shut' : ℕ → Bool) (stays : (y : ℕ) → shut y ≡ true → shut' y ≡ true)
      (known : i < count) (task : z.task.0 ≡ i) (further : (k : ℕ) → k < n → (pc k).task.0 ≡ i → (z.kind ≡ Share) × (x ≤ z.core.0))
      (here : z.core.0 < m) (free : shut z.core.0 ≡ false) (positive : 1 ≤ z.cost) (fits : z.cost ≤ need)
      (older : (q : ℕ) → q < n → bound ts pc n q ≤ local_deadline ts pc q → above ts z (pc q) ≡ true → bound ts pc' (suc n) q ≤ local_deadline ts pc q)
      (own : bound ts pc' (suc n) n ≤ local_deadline ts pc' n) where
    each : (Q : Piece → Type 0) → Q z → ((q : ℕ) → q < n → Q (pc q)) → (q : ℕ) → q < suc n → Q (pc' q)
    each Q a h q l = go (ℕ_discrete q n)
      where
        go : Dec (q ≡ n) → Q (pc' q)
        go (yes e) = rw (e, new) a
        go (no e) = rw (same q (omega arith)) (h q (omega arith))

    next_order : in_order pc' n ≡ true
    unfolding in_order begun
    next_order = go n refl
      where
        go : (k : ℕ) → n ≡ k → in_order pc' k ≡ true
        go zero e =
            let z0 : i ≤ begun pc 0 = rw e at L.reached in
            let t : pc' 0 ≡ z = rw e at new in
            rw t (eq-eqb z.task.0 0 (omega arith))
        go (suc k) e = rw (same k (omega arith), sym (ap pc' e) ∙ new) (by (ℕ_discrete (pc k).task.0 i))
          where
            l : i ≤ (pc k).task.0 + 1
            l = rw e at L.reached

            by : Dec ((pc k).task.0 ≡ i) → follows (pc k) z ≡ true
            by (yes q) =
                let s : ((pc k).kind ≡ Share) × ((pc k).core.0 < x) = L.shares k (omega arith) q in
                let f : (z.kind ≡ Share) × (x ≤ z.core.0) = further k (omega arith) q in
                same_follows (pc k) z (q ∙ sym task) ∙ rw (s.0, f.0) (lt-ltb (pc k).core.0 z.core.0 (omega arith))
            by (no q) = next_follows (pc k) z (omega (arith, l, L.rising k (omega arith)))

    grown_order : (q : ℕ) → q < suc n → in_order pc' q ≡ true
    grown_order q h = go (ℕ_discrete q n)
      where
        go : Dec (q ≡ n) → in_order pc' q ≡ true
        go (yes e) = rw e next_order
        go (no e) = order_same pc' pc n same q (omega arith) ∙ L.order q (omega arith)

    grown_begun : suc i ≤ begun pc' (suc n)
    unfolding begun
    grown_begun = rw new (omega arith)

    grown_full : (k : ℕ) → k < i → costs pc' k (suc n) ≡ (ts k).cost
    grown_full k h = costs_more pc pc' n same k ∙ rw (new, ne_eqb z.task.0 k (λ e. omega arith)) (omega (arith, L.full k h))

    grown_left : costs pc' i (suc n) + (need - z.cost) ≡ (ts i).cost
    grown_left = omega (arith, rw (new, eq-eqb z.task.0 i task) at (costs_more pc pc' n same i), L.left)

    grown_within : (q : ℕ) → q < suc n → bound ts pc' (suc n) q ≤ local_deadline ts pc' q
    grown_within q h = go (ℕ_discrete q n)
      where
        go : Dec (q ≡ n) → bound ts pc' (suc n) q ≤ local_deadline ts pc' q
        go (yes e) = rw e own
        go (no e) = rw (local_kept pc pc' n same ts q (omega arith)) (by _ refl)
          where
            l : q < n
            l = omega arith

            by : (b : Bool) → above ts z (pc q) ≡ b → bound ts pc' (suc n) q ≤ local_deadline ts pc q
            by true u = older q l (L.within q l) u
            by false u = omega (arith, L.within q l, rw (new, u) at (bound_grows pc pc' n same ts q l))

    -- a piece on top of a closed core stays so
    top_stays : (k : ℕ) → k < n → Top ts pc n shut k → Top ts pc' (suc n) shut' k
    top_stays k l t = record { closed = rw (same k l) (stays _ t.closed); alone = λ j b. rw (same k l) (each (λ a. above ts a (pc k) ≡ false) (none _ refl) t.alone j b) }
      where
        none : (b : Bool) → above ts z (pc k) ≡ b → above ts z (pc k) ≡ false
        none false u = u
        none true u = clash t.closed (rw (above_core ts z (pc k) u) at free)

    grown_tops : (k : ℕ) → k < suc n → is_last pc' (suc n) k ≡ false → Top ts pc' (suc n) shut' k
    grown_tops k h e = go (ℕ_discrete k n)
      where
        go : Dec (k ≡ n) → Top ts pc' (suc n) shut' k
        go (yes q) = clash (last_end pc' (suc n) k (omega arith)) e
        go (no q) = by (last_new pc pc' n same k (omega arith) e)
          where
            by : (is_last pc n k ≡ false) ⊎ ((pc k).task.0 ≡ (pc' n).task.0) → Top ts pc' (suc n) shut' k
            by (inl u) = top_stays k (omega arith) (L.tops k (omega arith) u)
            by (inr u) = top_stays k (omega arith) (L.mine k (omega arith) (u ∙ ap (λ (a : Piece). a.task.0) new ∙ task))

    -- the task is placed
    pub laid_done : z.cost ≡ need → suc n + open_cores m shut' ≤ suc i + m → Laid m count ts pc' (suc n) shut' (suc i) (ts (suc i)).cost 0
    unfolding costs
    laid_done e room = record {
      few = room;
      rising = λ q h. omega (arith, low q h);
      owned = each (λ a. a.task.0 < count) (omega arith) L.owned;
      core = each (λ a. a.core.0 < m) here L.core;
      some = each (λ a. 1 ≤ a.cost) positive L.some;
      order = grown_order;
      reached = grown_begun;
      full = λ k h. full k h (ℕ_discrete k i);
      left = omega (arith, none);
      within = grown_within;
      tops = grown_tops;
      mine = λ k h t. absurd (omega (arith, low k h));
      shares = λ k h t. absurd (omega (arith, low k h));
    }
      where
        low : (q : ℕ) → q < suc n → (pc' q).task.0 ≤ i
        low = each (λ a. a.task.0 ≤ i) (omega arith) L.rising

        none : costs pc' (suc i) (suc n) ≡ 0
        none = sum_none (suc n) _ (λ k h. rw (ne_eqb (pc' k).task.0 (suc i) (λ t. omega (arith, low k h))))

        full : (k : ℕ) → k < suc i → Dec (k ≡ i) → costs pc' k (suc n) ≡ (ts k).cost
        full k h (yes q) = rw q (omega (arith, grown_left))
        full k h (no q) = grown_full k (omega arith)

    -- a share that is not the task's last: it closes its core, and nothing ranks above it
    pub laid_part : z.kind ≡ Share → z.core.0 ≡ x → shut' x ≡ true → ((j : ℕ) → j < suc n → above ts (pc' j) z ≡ false) → Laid m count ts pc' (suc n) shut' i (need - z.cost) (x + 1)
    laid_part kind place after alone = record {
      few = omega (arith, L.few, close_one m shut shut' x (omega arith) (rw place at free) after stays);
      rising = each (λ a. a.task.0 ≤ i) (omega arith) L.rising;
      owned = each (λ a. a.task.0 < count) (omega arith) L.owned;
      core = each (λ a. a.core.0 < m) here L.core;
      some = each (λ a. 1 ≤ a.cost) positive L.some;
      order = grown_order;
      reached = omega (arith, grown_begun);
      full = grown_full;
      left = grown_left;
      within = grown_within;
      tops = grown_tops;
      mine = λ k h t. mine k h t (ℕ_discrete k n);
      shares = each (λ a. a.task.0 ≡ i → (a.kind ≡ Share) × (a.core.0 < x + 1)) (λ t. (kind, omega arith)) (λ k h t. ((L.shares k h t).0, omega (arith, (L.shares k h t).1)));
    }
      where
        mine : (k : ℕ) → k < suc n → (pc' k).task.0 ≡ i → Dec (k ≡ n) → Top ts pc' (suc n) shut' k
        mine k h t (yes q) = record { closed = rw (q, new, place) after; alone = λ j b. rw (q, new) (alone j b) }
        mine k h t (no q) = top_stays k (omega arith) (L.mine k (omega arith) (rw (same k (omega arith)) at t))
