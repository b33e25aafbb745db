-- A plan that passes the test of its shape has the shape in document 01's words.
use mathlib.Core.Path.{◌≡◌, refl, sym, ap, ◌∙◌}
use mathlib.Core.Logic.{◌⊎◌, inl, inr}
use mathlib.Core.Bool.{true, false, ◌&&◌}
use Prim.Native.Nat.{ℕ, zero, suc, ◌+◌, ◌≤◌, ◌<◌}
use native.Mathlib.Decide.{ℕ_discrete}
use native.Mathlib.Omega.{arith}
use lib.Dec.{ltb, eqb}
use borrow.Author.Tests.{eq-eqb, leb-true, ltb-true, lt-ltb, not-true}
use Rattle.tasks.proofs.Below.{first_le}
use Rattle.tasks.proofs.Bools.{clash, both, both_make, either}
use Rattle.tasks.specs.Below.{first}
use Rattle.tasks.specs.declared.Task.{Task}
use Rattle.plans.proofs.Costs.{costs_own, costs_over}
use Rattle.plans.proofs.InShape.{tests, fits, follower, Begins, begins}
use Rattle.plans.proofs.Shaped.{share_is, tasks_rise, same_follows}
use Rattle.plans.specs.InWords.{Of, OneWhole, OnlyShares, InWords}
use Rattle.plans.specs.Pieces.{costs}
use Rattle.plans.specs.Shape.{is_share, in_order, is_last, shape}
use Rattle.plans.specs.declared.Kind.TheVariants.{Whole, Share}
use Rattle.plans.specs.declared.Kind.{Kind}
use Rattle.plans.specs.declared.Piece.{Piece}

-- a piece before one of its own task is not the last
pub not_last : (pc : ℕ → Piece) (n j : ℕ) → suc j < n → (pc j).task.0 ≡ (pc (suc j)).task.0 → is_last pc n j ≡ true → ⊥
unfolding is_last
not_last pc n j l e z = clash (both_make (lt-ltb (suc j) n l) (eq-eqb (pc j).task.0 (pc (suc j)).task.0 e)) (not-true _ z)

module _ (m count : ℕ) (ts : ℕ → Task) (pc : ℕ → Piece) (n : ℕ) (good : shape m count ts pc n ≡ true) where
  -- tasks rise over any two pieces
  rise : (j k : ℕ) → j ≤ k → k < n → (pc j).task.0 ≤ (pc k).task.0
  rise = tasks_rise pc n (λ j h. (fits m count ts pc n good j h).order)

  -- two neighbours of one task are shares, on rising cores
  beside : (j : ℕ) → suc j < n → (pc j).task.0 ≡ (pc (suc j)).task.0 → (is_share (pc j).kind ≡ true) × (is_share (pc (suc j)).kind ≡ true) × ((pc j).core.0 < (pc (suc j)).core.0)
  unfolding in_order
  beside j h e =
      let f : is_share (pc j).kind && is_share (pc (suc j)).kind && ltb (pc j).core.0 (pc (suc j)).core.0 ≡ true = sym (same_follows (pc j) (pc (suc j)) e) ∙ (fits m count ts pc n good (suc j) h).order in
      let u : (is_share (pc j).kind && is_share (pc (suc j)).kind ≡ true) × (ltb (pc j).core.0 (pc (suc j)).core.0 ≡ true) = both f in
      let v : (is_share (pc j).kind ≡ true) × (is_share (pc (suc j)).kind ≡ true) = both u.0 in
      (v.0, v.1, ltb-true _ _ u.1)

  -- two pieces of one task are shares, on rising cores
  apart : (j k : ℕ) → j < k → k < n → (pc j).task.0 ≡ (pc k).task.0 → (is_share (pc j).kind ≡ true) × (is_share (pc k).kind ≡ true) × ((pc j).core.0 < (pc k).core.0)
  apart j zero l h e = absurd (omega arith)
  apart j (suc k) l h e = go (ℕ_discrete j k) (apart j k)
    where
      here : (pc k).task.0 ≡ (pc (suc k)).task.0
      here = omega (arith, rise j k (omega arith) (omega arith), rise k (suc k) (omega arith) h)

      b : (is_share (pc k).kind ≡ true) × (is_share (pc (suc k)).kind ≡ true) × ((pc k).core.0 < (pc (suc k)).core.0)
      b = beside k h here

      go : Dec (j ≡ k) → (j < k → k < n → (pc j).task.0 ≡ (pc k).task.0 → (is_share (pc j).kind ≡ true) × (is_share (pc k).kind ≡ true) × ((pc j).core.0 < (pc k).core.0))
          → (is_share (pc j).kind ≡ true) × (is_share (pc (suc k)).kind ≡ true) × ((pc j).core.0 < (pc (suc k)).core.0)
      go (yes q) ih = rw q b
      go (no q) ih =
          let r : (is_share (pc j).kind ≡ true) × (is_share (pc k).kind ≡ true) × ((pc j).core.0 < (pc k).core.0) = ih (omega arith) (omega arith) (e ∙ sym here) in
          (r.0, b.1, omega (arith, r.2, b.2))

  -- a task's costs add up to its c
  adds_up : (j : ℕ) → j < n → costs pc (pc j).task.0 n ≡ (ts (pc j).task.0).cost
  adds_up j h = climb n j h (omega arith)
    where
      climb : (f j : ℕ) → j < n → n ≤ j + f → costs pc (pc j).task.0 n ≡ (ts (pc j).task.0).cost
      climb zero j h l = absurd (omega arith)
      climb (suc f) j h l = go (either (is_last pc n j)) (climb f (suc j))
        where
          later : is_last pc n j ≡ true → (k : ℕ) → suc j ≤ k → k < n → (pc k).task.0 ≡ (pc j).task.0 → ⊥
          later z k a b e = not_last pc n j (omega arith) (omega (arith, rise j (suc j) (omega arith) (omega arith), rise (suc j) k a b)) z

          go : (is_last pc n j ≡ true) ⊎ (is_last pc n j ≡ false) → (suc j < n → n ≤ suc j + f → costs pc (pc (suc j)).task.0 n ≡ (ts (pc (suc j)).task.0).cost) → costs pc (pc j).task.0 n ≡ (ts (pc j).task.0).cost
          go (inl z) ih = costs_over pc (pc j).task.0 (suc j) n h (later z) ∙ (fits m count ts pc n good j h).full z
          go (inr z) ih =
              let q : (suc j < n) × ((pc (suc j)).task.0 ≡ (pc j).task.0) × ((pc j).core.0 < (pc (suc j)).core.0) = follower m count ts pc n good j h z in
              rw q.1 at (ih q.0 (omega arith))

  -- each task is whole or shared
  module _ (i : ℕ) (known : i < count) where
    -- the first piece of task i
    start : ℕ
    start = first n (λ k. eqb (pc k).task.0 i)

    -- each task has a first piece
    begin : Begins m count ts pc n good i
    begin = begins m count ts pc n good i known

    -- it is one of task i's
    own : Of pc n i start
    unfolding start
    own = (begin.known, begin.own)

    -- its first piece is the first
    from : (j : ℕ) → Of pc n i j → start ≤ j
    unfolding start
    from j o = first_le n (λ k. eqb (pc k).task.0 i) j o.0 (eq-eqb _ _ o.1)

    -- before it the task costs nothing
    first_free : costs pc i start ≡ 0
    unfolding start
    first_free = begin.none

    -- if it is whole it is the only one
    whole : (pc start).kind ≡ Whole → OneWhole ts pc n i
    whole w = record { place = start; own = own; alone = alone; kind = w; cost = cost }
      where
        alone : (j : ℕ) → Of pc n i j → j ≡ start
        alone j o = go (ℕ_discrete j start)
          where
            go : Dec (j ≡ start) → j ≡ start
            go (yes e) = e
            go (no e) = clash (apart start j (omega (arith, from j o)) o.0 (own.1 ∙ sym o.1)).0 (ap is_share w)

        cost : (pc start).cost ≡ (ts i).cost
        cost =
            let a : costs pc i n ≡ (ts i).cost = rw own.1 at (adds_up start own.0) in
            let b : costs pc i n ≡ costs pc i (suc start) = costs_over pc i (suc start) n own.0 (λ k l h e. omega (arith, alone k (h, e))) in
            let d : costs pc i (suc start) ≡ costs pc i start + (pc start).cost = rw own.1 at (costs_own pc start) in
            omega (arith, a, b, d, first_free)

    -- if it is a share all are
    shares : (pc start).kind ≡ Share → OnlyShares ts pc n i
    shares w = record {
      kinds = λ j o. go j o (ℕ_discrete j start);
      rising = λ j k l o r. omega (arith, (apart j k l r.0 (o.1 ∙ sym r.1)).2);
      least = λ j o. (fits m count ts pc n good j o.0).cost;
      total = rw own.1 at (adds_up start own.0);
    }
      where
        go : (j : ℕ) → Of pc n i j → Dec (j ≡ start) → (pc j).kind ≡ Share
        go j o (yes e) = rw e w
        go j o (no e) = share_is _ (apart start j (omega (arith, from j o)) o.0 (own.1 ∙ sym o.1)).1

    -- by the kind of its first piece it is the one or the other
    either_way : OneWhole ts pc n i ⊎ OnlyShares ts pc n i
    either_way = go _ refl
      where
        go : (k : Kind) → (pc start).kind ≡ k → OneWhole ts pc n i ⊎ OnlyShares ts pc n i
        go Whole e = inl (whole e)
        go Share e = inr (shares e)

  -- the shape in words
  pub to_words : InWords m count ts pc n
  to_words = record {
    order = rise;
    has = λ i h. record { place = start i h; own = own i h };
    tasks = λ j h. (fits m count ts pc n good j h).task;
    cores = λ j h. (fits m count ts pc n good j h).core;
    least = leb-true _ _ (tests m count ts pc n good).0;
    most = leb-true _ _ (tests m count ts pc n good).1;
    each = either_way;
  }
