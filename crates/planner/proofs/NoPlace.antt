-- A task finds no place in a draft exactly if no open core takes it whole and the limits of the open cores add up to less than its c.
use Rattle.std.proofs.lemmas.Option.{none-some}
use mathlib.Core.Path.{◌≡◌, sym, ◌∙◌}
use mathlib.Core.Logic.{◌⊎◌, inl, inr}
use mathlib.Core.Bool.{true, false, not, ◌&&◌, ◌||◌}
use Rattle.std.specs.Prelude.{None}
use Prim.Native.Nat.{ℕ, ◌<◌}
use native.Mathlib.Omega.{arith}
use lib.Dec.{leb, eqb}
use borrow.Author.Tests.{eq-eqb, eqb-true, leb-false, lt-leb, not-true, not-false}
use Rattle.tasks.proofs.Below.{Found, all_found, all_fails, any_none, any_each}
use Rattle.tasks.proofs.Bools.{either, neither}
use Rattle.tasks.specs.Below.{all, any, sum}
use Rattle.bounds.specs.Bound.{local_deadline, bound}
use Rattle.plans.proofs.Shaped.{whole_is}
use Rattle.plans.specs.Pieces.{task_of, piece_of}
use Rattle.plans.specs.Shape.{is_share}
use Rattle.plans.specs.declared.Plan.{Plan}
use Rattle.planner.proofs.Drafts.{LaidBefore, drafted_few}
use Rattle.planner.proofs.Keeps.{place_whole, place_shared}
use Rattle.planner.proofs.Offered.{ready_alone}
use Rattle.planner.proofs.RunsOut.{shares_out}
use Rattle.planner.specs.Asked.{OwnDeadlines, Alone}
use Rattle.planner.specs.Layout.{place}
use Rattle.planner.specs.NotPlaceable.{Over, NotWhole, open_limit}
use Rattle.planner.specs.Shared.{share_from}
use Rattle.planner.specs.Whole.{put, is_closed, whole_piece, keeps_bound, takes_whole}
use Rattle.planner.specs.declared.Draft.{Draft}

-- whole pieces having their tasks' deadlines, one on core x is over exactly if it does not keep its bound
module _ (v : Plan) (x : ℕ) (own : OwnDeadlines v) where
  -- a piece that does not keep its bound is over
  over_found : Found v.placed (λ q. not (keeps_bound v x q)) → Over v x
  over_found f =
      let b : keeps_bound v x f.place ≡ false = not-true _ f.holds in
      let u : (not (eqb (piece_of v f.place).core.0 x) || is_share (piece_of v f.place).kind ≡ false) × (leb (bound (task_of v) (piece_of v) v.placed f.place) (local_deadline (task_of v) (piece_of v) f.place) ≡ false) = neither b in
      let w : (not (eqb (piece_of v f.place).core.0 x) ≡ false) × (is_share (piece_of v f.place).kind ≡ false) = neither u.0 in
      record {
        piece = f.place;
        below = f.below;
        core = eqb-true _ _ (not-false _ w.0);
        whole = whole_is _ w.1;
        above = omega (arith, leb-false (bound (task_of v) (piece_of v) v.placed f.place) (local_deadline (task_of v) (piece_of v) f.place) u.1, own f.place f.below w.1);
      }

  -- where a piece is over, not every whole piece keeps its bound
  over_fails : Over v x → all v.placed (keeps_bound v x) ≡ false
  over_fails o =
      let l : local_deadline (task_of v) (piece_of v) o.piece < bound (task_of v) (piece_of v) v.placed o.piece = rw (own o.piece o.below (rw o.whole)) o.above in
      all_fails v.placed (keeps_bound v x) o.piece o.below (rw (eq-eqb _ _ o.core, o.whole, lt-leb _ _ l))

-- an open core does not take the task whole exactly if a whole piece would be over
module _ (d : Draft) (i x : ℕ) (own : Alone d.plan i) where
  -- a core that does not take it has such a piece
  takes_not : takes_whole d i x ≡ false → is_closed d.closed x ≡ false → NotWhole d i x
  unfolding takes_whole
  takes_not h free = over_found _ x (own x) (all_found _ _ (rw free at h))

  -- a core with such a piece does not take it
  not_takes : (is_closed d.closed x ≡ false → NotWhole d i x) → takes_whole d i x ≡ false
  unfolding takes_whole
  not_takes h = go (either (is_closed d.closed x))
    where
      go : (is_closed d.closed x ≡ true) ⊎ (is_closed d.closed x ≡ false) → not (is_closed d.closed x) && all (put (whole_piece d.plan i x) d.plan).placed (keeps_bound (put (whole_piece d.plan i x) d.plan) x) ≡ false
      go (inl e) = rw e
      go (inr e) = rw e (over_fails (put (whole_piece d.plan i x) d.plan) x (own x) (h e))

module _ (d : Draft) (i : ℕ) (R : LaidBefore i d) (known : i < d.plan.count) where
  -- no open core takes the task whole, and the limits of the open cores add up to less than its c
  abbrev pub Short : Type 0
  Short = ((x : ℕ) → x < d.plan.cores → is_closed d.closed x ≡ false → NotWhole d i x) × (sum d.plan.cores (open_limit d i) < (task_of d.plan i).cost)

  -- with the task added whole, whole pieces still have their tasks' deadlines
  own : Alone d.plan i
  own = ready_alone i d R (omega (arith, drafted_few i _ 0 d R, R.good.cores.1, R.good.tasks.1))

  -- the cores run out exactly if they have too little room
  out : (share_from d i (task_of d.plan i).cost 0 d.plan.cores ≡ None → sum d.plan.cores (open_limit d i) < (task_of d.plan i).cost)
      × (sum d.plan.cores (open_limit d i) < (task_of d.plan i).cost → share_from d i (task_of d.plan i).cost 0 d.plan.cores ≡ None)
  out = shares_out d i _ R.long (omega (arith, drafted_few i _ 0 d R, R.good.cores.1, R.good.tasks.1)) (R.good.values i known).some

  -- a task that finds no place is short of room
  pub none_says : place d i ≡ None → Short
  none_says h = go (either (any d.plan.cores (takes_whole d i)))
    where
      go : (any d.plan.cores (takes_whole d i) ≡ true) ⊎ (any d.plan.cores (takes_whole d i) ≡ false) → Short
      go (inl e) = absurd (none-some _ (sym h ∙ place_whole d i e))
      go (inr e) = ((λ x l free. takes_not d i x own (any_each d.plan.cores (takes_whole d i) e x l) free), out.0 (sym (place_shared d i e) ∙ h))

  -- a task that is short of room finds no place
  pub says_none : Short → place d i ≡ None
  says_none s = place_shared d i (any_none d.plan.cores (takes_whole d i) (λ x b. not_takes d i x own (s.0 x b))) ∙ out.1 s.1
