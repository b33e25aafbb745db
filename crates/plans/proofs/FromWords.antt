-- A plan that has the shape in document 01's words passes the test of its shape.
use mathlib.Core.Path.{◌≡◌, refl, sym, ap, ◌∙◌}
use mathlib.Core.Logic.{◌⊎◌, inl, inr}
use mathlib.Core.Bool.{true, false}
use Prim.Native.Nat.{ℕ, zero, suc, ◌+◌, ◌-◌, ◌≤◌, ◌<◌}
use native.Mathlib.Decide.{ℕ_discrete, dec_lt}
use native.Mathlib.Omega.{arith}
use borrow.Author.Tests.{eq-eqb, ne_eqb, le-leb, lt-ltb}
use Rattle.tasks.proofs.Below.{all_make}
use Rattle.tasks.proofs.Bools.{both_make, either}
use Rattle.tasks.specs.declared.Task.{Task}
use Rattle.plans.proofs.Costs.{costs_own, costs_away, costs_over}
use Rattle.plans.proofs.Shaped.{next_follows, same_follows, more_fits, last_fits}
use Rattle.plans.proofs.ToWords.{not_last}
use Rattle.plans.specs.InWords.{HasPiece, OneWhole, OnlyShares, InWords}
use Rattle.plans.specs.Pieces.{costs}
use Rattle.plans.specs.Shape.{follows, in_order, is_last, piece_fits, shape}
use Rattle.plans.specs.declared.Piece.{Piece}

module _ (m count : ℕ) (ts : ℕ → Task) (pc : ℕ → Piece) (n : ℕ) (paid : (i : ℕ) → i < count → 1 ≤ (ts i).cost) (W : InWords m count ts pc n) where
  module _ (j : ℕ) (here : j < n) where
    -- the task of piece j is whole or shared
    mine : OneWhole ts pc n (pc j).task.0 ⊎ OnlyShares ts pc n (pc j).task.0
    mine = W.each (pc j).task.0 (W.tasks j here)

    -- piece j costs at least 1
    paid_for : 1 ≤ (pc j).cost
    paid_for = go mine
      where
        go : OneWhole ts pc n (pc j).task.0 ⊎ OnlyShares ts pc n (pc j).task.0 → 1 ≤ (pc j).cost
        go (inl o) = let e : j ≡ o.place = o.alone j (here, refl) in omega (arith, ap (λ (k : ℕ). (pc k).cost) e, o.cost, paid (pc j).task.0 (W.tasks j here))
        go (inr o) = o.least j (here, refl)

    -- behind its last piece a task has none
    full : is_last pc n j ≡ true → costs pc (pc j).task.0 (suc j) ≡ (ts (pc j).task.0).cost
    full z = go mine
      where
        none : (k : ℕ) → suc j ≤ k → k < n → (pc k).task.0 ≡ (pc j).task.0 → ⊥
        none k a b e = not_last pc n j (omega arith) (omega (arith, W.order j (suc j) (omega arith) (omega arith), W.order (suc j) k a b)) z

        go : OneWhole ts pc n (pc j).task.0 ⊎ OnlyShares ts pc n (pc j).task.0 → costs pc (pc j).task.0 (suc j) ≡ (ts (pc j).task.0).cost
        go (inl o) =
            let e : j ≡ o.place = o.alone j (here, refl) in
            let c : (pc j).cost ≡ (ts (pc j).task.0).cost = ap (λ (k : ℕ). (pc k).cost) e ∙ o.cost in
            omega (arith, c, costs_own pc j, costs_away pc (pc j).task.0 j (λ k l. ne_eqb (pc k).task.0 (pc j).task.0 (λ q. omega (arith, e, o.alone k (omega arith, q)))))
        go (inr o) = sym (costs_over pc (pc j).task.0 (suc j) n here none) ∙ o.total

  -- the first piece is task 0's, and each other follows the one before it
  ordered : (j : ℕ) → j < n → in_order pc j ≡ true
  unfolding in_order
  ordered zero h =
      let k : HasPiece pc n 0 = W.has 0 (omega (arith, W.tasks 0 h)) in
      let e : (pc 0).task.0 ≡ 0 = omega (arith, W.order 0 k.place (omega arith) k.own.0, k.own.1) in
      eq-eqb _ _ e
  ordered (suc j) h = go (ℕ_discrete (pc j).task.0 (pc (suc j)).task.0)
    where
      same : (pc j).task.0 ≡ (pc (suc j)).task.0 → OneWhole ts pc n (pc j).task.0 ⊎ OnlyShares ts pc n (pc j).task.0 → follows (pc j) (pc (suc j)) ≡ true
      same e (inl o) = absurd (omega (arith, o.alone j (omega arith, refl), o.alone (suc j) (h, sym e)))
      same e (inr o) = same_follows (pc j) (pc (suc j)) e ∙ rw (o.kinds j (omega arith, refl), o.kinds (suc j) (h, sym e), lt-ltb _ _ (o.rising j (suc j) (omega arith) (omega arith, refl) (h, sym e)))

      gap : (pc j).task.0 + 1 < (pc (suc j)).task.0 → ⊥
      gap l = on (dec_lt j k.place)
        where
          k : HasPiece pc n ((pc j).task.0 + 1)
          k = W.has ((pc j).task.0 + 1) (omega (arith, W.tasks (suc j) h))

          on : Dec (j < k.place) → ⊥
          on (yes q) = omega (arith, W.order (suc j) k.place q k.own.0, k.own.1)
          on (no q) = omega (arith, W.order k.place j (omega arith) (omega arith), k.own.1)

      go : Dec ((pc j).task.0 ≡ (pc (suc j)).task.0) → follows (pc j) (pc (suc j)) ≡ true
      go (yes e) = same e (mine j (omega arith))
      go (no e) = next_follows (pc j) (pc (suc j)) (next (dec_lt ((pc j).task.0 + 1) (pc (suc j)).task.0))
        where
          next : Dec ((pc j).task.0 + 1 < (pc (suc j)).task.0) → (pc (suc j)).task.0 ≡ (pc j).task.0 + 1
          next (yes l) = absurd (gap l)
          next (no l) = omega (arith, W.order j (suc j) (omega arith) h)

  -- each piece passes its test
  each_fits : (j : ℕ) → j < n → piece_fits m count ts pc n j ≡ true
  each_fits j h = go (either (is_last pc n j))
    where
      go : (is_last pc n j ≡ true) ⊎ (is_last pc n j ≡ false) → piece_fits m count ts pc n j ≡ true
      go (inl z) = last_fits m count ts pc n j (W.tasks j h) (W.cores j h) (paid_for j h) (ordered j h) z ∙ eq-eqb _ _ (full j h z)
      go (inr z) = more_fits m count ts pc n j (W.tasks j h) (W.cores j h) (paid_for j h) (ordered j h) z

  -- the last piece is the last task's
  ends : (pc (n - 1)).task.0 + 1 ≡ count
  ends =
      let l : n - 1 < n = omega (arith, W.least) in
      let t : (pc (n - 1)).task.0 < count = W.tasks (n - 1) l in
      let k : HasPiece pc n (count - 1) = W.has (count - 1) (omega arith) in
      omega (arith, W.order k.place (n - 1) (omega (arith, k.own.0)) l, k.own.1)

  -- the test of the shape passes
  pub from_words : shape m count ts pc n ≡ true
  unfolding shape
  from_words = both_make (both_make (both_make (le-leb 1 n W.least) (le-leb n 128 W.most)) (all_make n _ each_fits)) (eq-eqb _ _ ends)
