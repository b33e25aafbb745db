-- Shared: what each turn over the cores does, and that a task which finds its place this way leaves a draft with the next task to lay out.
use Rattle.std.proofs.lemmas.Option.{none-some, same_Some}
use mathlib.Core.Path.{◌≡◌, refl, subst}
use mathlib.Core.Bool.{Bool, true, false, ◌||◌}
use Rattle.std.specs.Prelude.{Some}
use Prim.Native.Nat.{ℕ, zero, suc, ◌+◌, ◌-◌, ◌≤◌, ◌<◌}
use native.Mathlib.Nat.{le_refl}
use native.Mathlib.Omega.{arith}
use lib.Dec.{ltb, eqb}
use borrow.Author.Tests.{eqb-true, eqb-false, ltb-true, ltb-false}
use Rattle.tasks.proofs.Bools.{neither}
use Rattle.plans.specs.Pieces.{task_of}
use Rattle.planner.specs.Limit.{limit}
use Rattle.planner.specs.Shared.{give_share, close, share_from}
use Rattle.planner.specs.Whole.{put, is_closed}
use Rattle.planner.specs.declared.Draft.{Draft}
use Rattle.planner.proofs.Drafts.{Drafted, LaidBefore}
use Rattle.planner.proofs.Laid.{laid_skip}
use Rattle.planner.proofs.Shares.{part_drafted, fit_ready, fill_ready}

-- what a turn at core x does
module _ (d : Draft) (i need x f : ℕ) where
  pub most : ℕ
  most = limit d.plan (task_of d.plan i).period x

  pub data Turn : Type 0 where
    skip : share_from d i need x (suc f) ≡ share_from d i need (x + 1) f → Turn
    part : is_closed d.closed x ≡ false → 1 ≤ most → most < need → share_from d i need x (suc f) ≡ share_from (close (give_share d i x most) x) i (need - most) (x + 1) f → Turn
    fill : is_closed d.closed x ≡ false → 1 ≤ most → most ≡ need → share_from d i need x (suc f) ≡ Some (close (give_share d i x need) x) → Turn
    fit : is_closed d.closed x ≡ false → need < most → share_from d i need x (suc f) ≡ Some (give_share d i x need) → Turn

  pub turn : Turn
  unfolding share_from most
  turn = go _ _ _ refl refl refl
    where
      go : (a b c : Bool) → is_closed d.closed x || eqb most 0 ≡ a → ltb most need ≡ b → eqb most need ≡ c → Turn
      go true b c p q r = skip (rw p)
      go false true c p q r =
          let n : (is_closed d.closed x ≡ false) × (eqb most 0 ≡ false) = neither p in
          let k : (most ≡ 0 → ⊥) = eqb-false most 0 n.1 in
          part n.0 (omega arith) (ltb-true _ _ q) (rw (p, q))
      go false false true p q r =
          let n : (is_closed d.closed x ≡ false) × (eqb most 0 ≡ false) = neither p in
          let k : (most ≡ 0 → ⊥) = eqb-false most 0 n.1 in
          fill n.0 (omega arith) (eqb-true _ _ r) (rw (p, q, r))
      go false false false p q r =
          let n : (is_closed d.closed x ≡ false) × (eqb most 0 ≡ false) = neither p in
          let k : (most ≡ need → ⊥) = eqb-false most need r in
          fit n.0 (omega (arith, ltb-false most need q)) (rw (p, q, r))

pub drafted_skip : (i need x : ℕ) (d : Draft) → Drafted i need x d → Drafted i need (x + 1) d
drafted_skip i need x d D = record { good = D.good; long = D.long; wide = D.wide; clean = D.clean; laid = laid_skip _ _ _ _ _ _ i need x D.laid }

pub share_ready : (i f x need : ℕ) (d v : Draft) → Drafted i need x d → i < d.plan.count → 1 ≤ need → x + f ≤ d.plan.cores → share_from d i need x f ≡ Some v → LaidBefore (suc i) v
unfolding share_from close give_share put most
share_ready i zero x need d v D known positive room e = absurd (none-some _ e)
share_ready i (suc f) x need d v D known positive room e = go (turn d i need x f) (share_ready i f (x + 1))
  where
    here : x < d.plan.cores
    here = omega arith

    go : Turn d i need x f → ((need : ℕ) (d v : Draft) → Drafted i need (x + 1) d → i < d.plan.count → 1 ≤ need → x + 1 + f ≤ d.plan.cores → share_from d i need (x + 1) f ≡ Some v → LaidBefore (suc i) v) → LaidBefore (suc i) v
    go (skip t) ih = ih need d v (drafted_skip i need x d D) known positive (omega arith) (rw t at e)
    go (part free positive less t) ih = ih (need - most d i need x f) _ v (part_drafted i need x d D known here free (most d i need x f) positive (omega arith) (le_refl _)) known (omega arith) (omega arith) (rw t at e)
    go (fill free l same t) ih = subst (LaidBefore (suc i)) (same_Some _ _ (rw t at e)) (fill_ready i need x d D known here free need positive (le_refl _) (omega arith) refl)
    go (fit free more t) ih = subst (LaidBefore (suc i)) (same_Some _ _ (rw t at e)) (fit_ready i need x d D known here free need positive (le_refl _) (omega arith) refl)
