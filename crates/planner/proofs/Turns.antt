-- The drafts that sharing a task comes to, core by core: they keep what every draft keeps, and no limit is taken over nothing.
use mathlib.Core.Path.{◌≡◌, refl, ap, ◌∙◌}
use mathlib.Core.Bool.{Bool, true, false, ◌||◌}
use Prim.Native.Nat.{ℕ, suc, ◌+◌, ◌-◌, ◌≤◌, ◌<◌}
use native.Mathlib.Nat.{le_refl, div-le_self}
use native.Mathlib.Omega.{arith}
use lib.Dec.{ltb, eqb}
use borrow.Author.Tests.{eqb-true, eqb-false, ltb-true}
use Rattle.tasks.proofs.Below.{Found, any_found, any_make, any_each}
use Rattle.tasks.proofs.Bools.{clash, neither}
use Rattle.tasks.proofs.Tables.{Ranges}
use Rattle.tasks.specs.Below.{any}
use Rattle.bounds.specs.Bound.{local_deadline, bound}
use Rattle.plans.specs.Interference.{periods}
use Rattle.plans.specs.Pieces.{task_of, piece_of}
use Rattle.planner.specs.Limit.{allowance, limit}
use Rattle.planner.specs.Shared.{share_piece, give_share, close, share_from}
use Rattle.planner.specs.Whole.{put, is_closed, takes_whole}
use Rattle.planner.specs.declared.Draft.{Draft}
use Rattle.planner.proofs.Drafts.{Drafted, LaidBefore}
use Rattle.planner.proofs.Limits.{limit_le}
use Rattle.planner.proofs.Put.{put_old, close_stays}
use Rattle.planner.proofs.Shares.{part_drafted}
use Rattle.planner.proofs.Sharing.{drafted_skip}
use Rattle.planner.proofs.Wholes.{empty_takes}

-- a piece of the draft is on core x
abbrev pub occupied : Draft → ℕ → Bool
occupied d x = any d.plan.placed (λ q. eqb (piece_of d.plan q).core.0 x)

-- core x's limit for task i
abbrev pub limit_for : Draft → ℕ → ℕ → ℕ
limit_for d i x = limit d.plan (task_of d.plan i).period x

-- sharing task i of draft d comes to core x with draft e and `need` of the task's cost to place
pub data Comes (d : Draft) (i : ℕ) : ℕ → ℕ → Draft → Type 0 where
  begins : Comes d i (task_of d.plan i).cost 0 d
  skips : {need x : ℕ} {e : Draft} → Comes d i need x e → is_closed e.closed x || eqb (limit_for e i x) 0 ≡ true → Comes d i need (x + 1) e
  parts : {need x : ℕ} {e : Draft} → Comes d i need x e → is_closed e.closed x || eqb (limit_for e i x) 0 ≡ false → ltb (limit_for e i x) need ≡ true
      → Comes d i (need - limit_for e i x) (x + 1) (close (give_share e i x (limit_for e i x)) x)

-- what is left to do there is what the whole search does
pub comes_same : (d : Draft) (i need x : ℕ) (e : Draft) → Comes d i need x e → (f : ℕ) → x + f ≡ d.plan.cores → share_from d i (task_of d.plan i).cost 0 d.plan.cores ≡ share_from e i need x f
unfolding share_from
comes_same d i need x e begins f h = let k : d.plan.cores ≡ f = omega arith in ap (share_from d i (task_of d.plan i).cost 0) k
comes_same d i need x e (skips {x = y} c p) f h = comes_same d i need y e c (suc f) (omega arith) ∙ rw p
comes_same d i need x e (parts {need = n} {x = y} {e = u} c p q) f h = comes_same d i n y u c (suc f) (omega arith) ∙ rw (p, q)

-- a piece of a draft allows less than 1,000,000
pub allows_less : (i need x : ℕ) (d : Draft) → Drafted i need x d → (p q : ℕ) → q < d.plan.placed → allowance d.plan p q < 1000000
unfolding allowance bound local_deadline
allows_less i need x d D p q h =
    let r : Ranges (task_of d.plan (piece_of d.plan q).task.0) = D.good.values _ (D.laid.owned q h) in
    omega (
      arith,
      div-le_self (local_deadline (task_of d.plan) (piece_of d.plan) q - bound (task_of d.plan) (piece_of d.plan) d.plan.placed q) (periods p (local_deadline (task_of d.plan) (piece_of d.plan) q)),
      D.laid.some q h,
      r.inside,
      r.most,
    )

module _ (d : Draft) (i : ℕ) (A : LaidBefore i d) (known : i < d.plan.count) where
  -- it keeps what every draft keeps
  pub record Kept (need x : ℕ) (e : Draft) : Type 0 where
    pub drafted : Drafted i need x e
    pub cores : e.plan.cores ≡ d.plan.cores
    pub count : e.plan.count ≡ d.plan.count

  pub comes_kept : (need x : ℕ) (e : Draft) → Comes d i need x e → x ≤ d.plan.cores → Kept need x e
  unfolding close give_share put
  comes_kept need x e begins h = record { drafted = A; cores = refl; count = refl }
  comes_kept need x e (skips {x = y} c p) h =
      let k : Kept need y e = comes_kept need y e c (omega arith) in
      record { drafted = drafted_skip i need y e k.drafted; cores = k.cores; count = k.count }
  comes_kept need x e (parts {need = n} {x = y} {e = u} c p q) h =
      let k : Kept n y u = comes_kept n y u c (omega arith) in
      let b : (is_closed u.closed y ≡ false) × (eqb (limit_for u i y) 0 ≡ false) = neither p in
      let z : (limit_for u i y ≡ 0 → ⊥) = eqb-false (limit_for u i y) 0 b.1 in
      let l : limit_for u i y < n = ltb-true _ _ q in
      record {
        drafted = part_drafted i n y u k.drafted (omega (arith, k.count)) (omega (arith, k.cores)) b.0 (limit_for u i y) (omega arith) (omega arith) (le_refl _);
        cores = k.cores;
        count = k.count;
      }

  -- no core takes the task whole
  module _ (shared : any d.plan.cores (takes_whole d i) ≡ false) where
    -- then every open core has a piece
    starts_occupied : (y : ℕ) → y < d.plan.cores → is_closed d.closed y ≡ false → occupied d y ≡ true
    starts_occupied y h free = go _ refl
      where
        go : (b : Bool) → occupied d y ≡ b → occupied d y ≡ true
        go true o = o
        go false o = clash (any_make d.plan.cores (takes_whole d i) y h (empty_takes i d A known y free (λ q l e. eqb-false _ _ (any_each d.plan.placed _ o q l) e))) shared

    stays_occupied : (need x : ℕ) (e : Draft) → Comes d i need x e → x ≤ d.plan.cores → (y : ℕ) → y < d.plan.cores → is_closed e.closed y ≡ false → occupied e y ≡ true
    unfolding close give_share put
    stays_occupied need x e begins h y l free = starts_occupied y l free
    stays_occupied need x e (skips {x = z} c p) h y l free = stays_occupied need z e c (omega arith) y l free
    stays_occupied need x e (parts {need = n} {x = z} {e = u} c p q) h y l free = go _ refl (λ w. stays_occupied n z u c (omega arith) y l w)
      where
        k : Kept n z u
        k = comes_kept n z u c (omega arith)

        more : Found u.plan.placed (λ q. eqb (piece_of u.plan q).core.0 y) → occupied (close (give_share u i z (limit_for u i z)) z) y ≡ true
        more f = any_make (u.plan.placed + 1) _ f.place (omega (arith, f.below)) (rw (put_old (share_piece i z (limit_for u i z)) u.plan f.place f.below) f.holds)

        go : (b : Bool) → is_closed u.closed y ≡ b → (is_closed u.closed y ≡ false → occupied u y ≡ true) → occupied (close (give_share u i z (limit_for u i z)) z) y ≡ true
        go true w ih = clash (close_stays u.closed z y (omega (arith, k.drafted.wide, k.drafted.good.cores.1, k.cores)) w) free
        go false w ih = more (any_found u.plan.placed _ (ih w))

    -- an open core's limit is the least over some pieces, and below where the search for the least starts
    pub no_limit_over_nothing : (need x : ℕ) (e : Draft) → Comes d i need x e → x < d.plan.cores → is_closed e.closed x ≡ false → (occupied e x ≡ true) × (limit_for e i x < 1000000)
    no_limit_over_nothing need x e c h free = (o, go (any_found e.plan.placed _ o))
      where
        o : occupied e x ≡ true
        o = stays_occupied need x e c (omega arith) x h free

        go : Found e.plan.placed (λ q. eqb (piece_of e.plan q).core.0 x) → limit_for e i x < 1000000
        go f = omega (
          arith,
          limit_le e.plan (task_of e.plan i).period x e.plan.placed f.place f.below (eqb-true _ _ f.holds),
          allows_less i need x e (comes_kept need x e c (omega arith)).drafted (task_of e.plan i).period f.place f.below,
        )
