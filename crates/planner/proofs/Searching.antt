-- The shared search from core to core: what is kept on the way, and what each way out of a core gives.
use mathlib.Core.Path.{◌≡◌, refl, ap, ◌∙◌}
use mathlib.Core.Bool.{true, false, ◌||◌, cond}
use mathlib.Core.Logic.{◌⊎◌, inl, inr}
use Rattle.std.specs.Prelude.{None, Some}
use Prim.Native.Nat.{ℕ, suc, ◌+◌, ◌-◌, ◌≤◌, ◌<◌}
use native.Mathlib.Omega.{arith}
use lib.Dec.{ltb, eqb}
use lib.ListN.{length, length-set}
use borrow.Author.Tests.{eq-eqb, ne_eqb, lt-ltb, le-ltb}
use Rattle.tasks.proofs.Bools.{right_one}
use Rattle.plans.specs.Pieces.{task_of}
use Rattle.planner.proofs.Putting.{stays_ready}
use Rattle.planner.specs.Asked.{Ready}
use Rattle.planner.specs.Limit.{limit_of}
use Rattle.planner.specs.Shared.{share_piece, give_share, close, share_from}
use Rattle.planner.specs.Whole.{put, is_closed}
use Rattle.planner.specs.declared.Draft.{Draft}

-- at core x, with draft e and need come from draft d, what is left to do is what the whole search does
pub record Sharing (d : Draft) (i p need : ℕ) (e : Draft) (x : ℕ) : Type 0 where
  pub board : d.plan.cores ≤ 16
  pub some : 1 ≤ need
  pub least : need ≤ (task_of e.plan i).cost
  pub period : p ≡ (task_of e.plan i).period
  pub few : e.plan.placed ≤ 80 + x
  pub ready : Ready e.plan i
  pub pieces : length e.plan.pieces ≡ 128
  pub cores : length e.closed ≡ 16
  pub same : share_from d i (task_of d.plan i).cost 0 d.plan.cores ≡ share_from e i need x (d.plan.cores - x)

-- the search begins at core 0, with the draft as it is and the whole cost needed
pub begun : (d : Draft) (i : ℕ) → d.plan.placed ≤ 80 → Ready d.plan i → length d.plan.pieces ≡ 128 → length d.closed ≡ 16 → Sharing d i (task_of d.plan i).period (task_of d.plan i).cost d 0
begun d i few r l k = record {
  board = r.cores;
  some = r.some;
  least = omega arith;
  period = refl;
  few = omega arith;
  ready = r;
  pieces = l;
  cores = k;
  same = ap (share_from d i (task_of d.plan i).cost 0) (omega arith);
}

module _ {d : Draft} {i p need : ℕ} {e : Draft} {x : ℕ} (s : Sharing d i p need e x) where
  -- the cores have run out
  pub run_out : d.plan.cores ≤ x → share_from d i (task_of d.plan i).cost 0 d.plan.cores ≡ None
  unfolding share_from
  run_out h = s.same ∙ (let z : d.plan.cores - x ≡ 0 = omega arith in rw z)

  module _ (here : x < d.plan.cores) where
    -- core x's limit
    most_at : ℕ
    most_at = limit_of e.plan p x e.plan.placed

    -- what is done at core x, by its limit
    at_core : share_from e i need x (d.plan.cores - x) ≡
        cond (is_closed e.closed x || eqb most_at 0) (share_from e i need (x + 1) (d.plan.cores - (x + 1)))
        (cond (ltb most_at need) (share_from (close (give_share e i x most_at) x) i (need - most_at) (x + 1) (d.plan.cores - (x + 1)))
        (cond (eqb most_at need) (Some (close (give_share e i x need) x)) (Some (give_share e i x need))))
    unfolding share_from most_at
    at_core = let z : d.plan.cores - x ≡ suc (d.plan.cores - (x + 1)) = omega arith in rw (z, s.period)

    -- a core that is closed, or whose limit is 0, is skipped
    pub skip : (is_closed e.closed x ≡ true) ⊎ (limit_of e.plan p x e.plan.placed ≡ 0) → Sharing d i p need e (x + 1)
    unfolding most_at
    skip h = record {
      board = s.board;
      some = s.some;
      least = s.least;
      period = s.period;
      few = omega (arith, s.few);
      ready = s.ready;
      pieces = s.pieces;
      cores = s.cores;
      same = s.same ∙ at_core ∙ rw (shutting h);
    }
      where
        shutting : (is_closed e.closed x ≡ true) ⊎ (limit_of e.plan p x e.plan.placed ≡ 0) → is_closed e.closed x || eqb (limit_of e.plan p x e.plan.placed) 0 ≡ true
        shutting (inl c) = rw c
        shutting (inr c) = right_one (is_closed e.closed x) (eq-eqb _ _ c)

    module _ (free : is_closed e.closed x ≡ false) {most : ℕ} (limited : most ≡ limit_of e.plan p x e.plan.placed) (positive : 1 ≤ most) where
      taken : is_closed e.closed x || eqb (limit_of e.plan p x e.plan.placed) 0 ≡ false
      taken = rw (free, ne_eqb (limit_of e.plan p x e.plan.placed) 0 (λ z. omega arith))

      -- the limit is below need: a share of that size, the core is closed, and need falls by it
      pub part : most < need → Sharing d i p (need - most) (close (give_share e i x most) x) (x + 1)
      unfolding put give_share close most_at
      part h = record {
        board = s.board;
        some = omega arith;
        least = omega (arith, s.least);
        period = s.period;
        few = omega (arith, s.few);
        ready = stays_ready (share_piece i x most) e.plan i s.pieces (omega (arith, s.few, s.board)) s.ready refl (omega (arith, s.least));
        pieces = length-set e.plan.pieces e.plan.placed _ ∙ s.pieces;
        cores = length-set e.closed x true ∙ s.cores;
        same = s.same ∙ at_core ∙ rw (taken, ← limited, lt-ltb most need h);
      }

      -- the limit equals need: the task gets need, the core is closed, the task is placed
      pub fill : most ≡ need → share_from d i (task_of d.plan i).cost 0 d.plan.cores ≡ Some (close (give_share e i x most) x)
      unfolding most_at
      fill h = s.same ∙ at_core ∙ rw (taken, ← limited, le-ltb most need (omega arith), eq-eqb most need h, h)

      -- the limit exceeds need: the task gets need, the core stays open, the task is placed
      pub fit : need < most → share_from d i (task_of d.plan i).cost 0 d.plan.cores ≡ Some (give_share e i x need)
      unfolding most_at
      fit h = s.same ∙ at_core ∙ rw (taken, ← limited, le-ltb most need (omega arith), ne_eqb most need (λ z. omega arith))
