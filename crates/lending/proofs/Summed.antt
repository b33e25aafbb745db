-- The bound over a lent list, by the plan record that it makes; and what has been added up over the list is it.
use mathlib.Core.Path.{◌≡◌, refl, sym, ◌∙◌, ap}
use mathlib.Core.List.{List}
use mathlib.Core.Bool.{Bool, true, false}
use Prim.Native.Nat.{ℕ, zero, suc, ◌+◌, ◌≤◌, ◌<◌}
use native.Mathlib.Nat.{le_refl}
use native.Mathlib.Omega.{arith}
use lib.Dec.{ltb}
use lib.ListN.{length, get_or}
use Rattle.std.specs.Prelude.{Ok, Err}
use Rattle.tasks.specs.Answers.{Answer, Accepted, Refused}
use Rattle.tasks.specs.declared.Refusal.{Refusal}
use Rattle.tasks.specs.Below.{sum}
use Rattle.tasks.specs.declared.Table.{Table}
use Rattle.plans.specs.Pieces.{no_piece, task_of, piece_of, SamePlan}
use Rattle.plans.specs.Shape.{checked_plan}
use Rattle.plans.specs.declared.Piece.{Piece}
use Rattle.plans.specs.declared.Plan.{Plan}
use Rattle.bounds.specs.Asking.{known, unless_refused, bound_asked}
use Rattle.bounds.specs.Bound.{local_deadline, load, bound}
use Rattle.bounds.specs.Leaves.{Moderate, listed}
use Rattle.bounds.proofs.Parts.{load_same, list_moderate, list_load}
use Rattle.bounds.proofs.Sums.{load_none, load_small, local_small}
use Rattle.lending.specs.Recorded.{recorded, asked_of}
use Rattle.lending.specs.Adding.{lent_piece, up_to, task_in, pressure_on, added, Bearable}
use Rattle.lending.specs.declared.Adding.{Adding}
use Rattle.lending.specs.Lent.{lent_plan, bound_lent}
use Rattle.lending.proofs.Asking.{asked_plan, asked_moderate, asked_place}
use Rattle.lending.proofs.Recording.{accepted_same, asked_lent}

-- the bound asked from outside, by the answer on the piece
asked_by : (p : Plan) (q : ℕ) → bound_asked p q ≡ unless_refused (asked_of p q) (Ok (known (local_deadline (task_of p) (piece_of p) q) (bound (task_of p) (piece_of p) p.placed q)))
unfolding asked_of bound_asked
asked_by p q = go (checked_plan p) (ltb q p.placed) refl refl
  where
    go : (a : Answer) (b : Bool) → checked_plan p ≡ a → ltb q p.placed ≡ b → bound_asked p q ≡ unless_refused (asked_of p q) (Ok (known (local_deadline (task_of p) (piece_of p) q) (bound (task_of p) (piece_of p) p.placed q)))
    go (Refused r) b c d = rw c
    go Accepted true c d = rw (c, d)
    go Accepted false c d = rw (c, d)

abbrev with_bound : Adding → ℕ → Adding
with_bound s x = record { tasks = s.tasks; piece = s.piece; deadline = s.deadline; bound = x }

module _ (s : Adding) (ys : List Piece) where
  -- the interference of the first j pieces of the list
  abbrev loaded : ℕ → ℕ
  loaded j = load (task_in s) (lent_piece ys) j s.piece s.deadline

  loaded_more : (j : ℕ) → loaded (suc j) ≡ loaded j + pressure_on s (lent_piece ys j)
  unfolding load sum pressure_on
  loaded_more j = refl

  added_next : (x : ℕ) (z : Piece) → added (with_bound s x) z ≡ with_bound s (x + pressure_on s z)
  unfolding added pressure_on
  added_next x z = refl

  pub added_up : (j : ℕ) → up_to added j s ys ≡ with_bound s (s.bound + loaded j)
  added_up zero = ap (with_bound s) (omega (arith, load_none (task_in s) (lent_piece ys) s.piece s.deadline))
  added_up (suc j) = ap (λ (u : Adding). added u (lent_piece ys j)) (added_up j) ∙ added_next (s.bound + loaded j) (lent_piece ys j) ∙ ap (with_bound s) (omega (arith, loaded_more j))

-- p is the plan record of the list
module _ (t : Table) (ys : List Piece) (q : ℕ) (p : Plan) (is : p ≡ recorded t ys) where
  by_answer : bound_lent t ys q ≡ unless_refused (asked_of p q) (Ok (known (local_deadline (task_of p) (piece_of p) q) (bound (task_of p) (piece_of p) p.placed q)))
  unfolding bound_lent
  by_answer = rw is (sym (asked_lent t ys q) ∙ asked_by (recorded t ys) q)

  -- what the plan is refused with, the list is
  pub lent_refused : (r : Refusal) → asked_of p q ≡ Refused r → bound_lent t ys q ≡ Err r
  lent_refused r h = by_answer ∙ rw h

  module _ (accepted : asked_of p q ≡ Accepted) where
    -- the bound of the plan's piece is the list's
    pub lent_known : bound_lent t ys q ≡ Ok (known (local_deadline (task_of p) (piece_of p) q) (bound (task_of p) (piece_of p) p.placed q))
    lent_known = by_answer ∙ rw accepted

    same : SamePlan p (lent_plan t ys)
    same = rw is (accepted_same t ys (asked_plan (recorded t ys) q (rw is at accepted)))

    -- the list has the plan's pieces
    lent_each : (i : ℕ) → i < length ys → get_or ys i no_piece ≡ piece_of p i
    lent_each i h = sym (same.pieces i (omega (arith, same.placed)))

    moderate : Moderate p
    moderate = asked_moderate p q accepted

    -- so its numbers are as moderate, and its loads are the same
    pub lent_moderate : Moderate (listed p.tasks ys)
    lent_moderate = list_moderate p ys (sym same.placed) lent_each moderate

    pub lent_load : (b : Piece) (L : ℕ) → load (task_of (listed p.tasks ys)) (piece_of (listed p.tasks ys)) (length ys) b L ≡ load (task_of p) (piece_of p) p.placed b L
    lent_load = list_load p ys (sym same.placed) lent_each

    -- what is added up, to begin with
    abbrev from : Adding
    from = record { tasks = p.tasks; piece = piece_of p q; deadline = local_deadline (task_of p) (piece_of p) q; bound = (piece_of p q).cost }

    loaded_same : (j : ℕ) → j ≤ p.placed → loaded from ys j ≡ load (task_of p) (piece_of p) j from.piece from.deadline
    loaded_same j h = sym (load_same (task_of p) (piece_of p) (lent_piece ys) j (λ i l. same.pieces i (omega arith)) from.piece from.deadline)

    bears : (j : ℕ) → j < p.placed → (z : Piece) → piece_of p j ≡ z → (x : ℕ) → x + pressure_on from z < 4294967296 → Bearable (with_bound from x) z
    unfolding pressure_on
    bears j l z e x h = record {
      own = rw e at (moderate.owned j l);
      asked = moderate.owned q (asked_place p q accepted);
      positive = rw e at (moderate.positive j l);
      fits = rw e at (moderate.fits j l);
      most = rw e at (moderate.most j l);
      near = local_small p moderate q (asked_place p q accepted);
      room = h;
    }

    small : (j : ℕ) → j < p.placed → from.bound + loaded from ys j + pressure_on from (lent_piece ys j) < 4294967296
    small j l =
        let inside : q < p.placed = asked_place p q accepted in
        omega (
          arith,
          loaded_more from ys j,
          loaded_same (suc j) l,
          load_small p moderate from.piece from.deadline (suc j) (local_small p moderate q inside) l,
          moderate.few,
          moderate.fits q inside,
          moderate.most q inside,
        )

    -- what adding the pieces up asks
    pub starts : (p.placed ≤ length ys) × ((j : ℕ) → j < p.placed → Bearable (up_to added j from ys) (lent_piece ys j))
    starts = (
      omega (arith, same.placed),
      λ j l. rw (added_up from ys j) (bears j l (lent_piece ys j) (same.pieces j l) (from.bound + loaded from ys j) (small j l)),
    )

    -- what has been added up in the end
    pub sums_up : (up_to added p.placed from ys).bound ≡ bound (task_of p) (piece_of p) p.placed q
    unfolding bound
    sums_up = rw (added_up from ys p.placed) (ap (λ (x : ℕ). from.bound + x) (loaded_same p.placed (le_refl _)))
