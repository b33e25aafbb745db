-- The plan record of a lent list: up to 128 pieces it is the list's, and with more it is refused as the list is.
use mathlib.Core.Path.{◌≡◌, refl, sym, ◌∙◌}
use mathlib.Core.Bool.{false}
use mathlib.Core.List.{List}
use Prim.Native.Nat.{ℕ, ◌≤◌, ◌<◌}
use native.Mathlib.Decide.{dec_lt}
use native.Mathlib.Omega.{arith}
use lib.ListN.{length, get_or}
use borrow.Author.Tests.{le-leb, lt-leb}
use Rattle.tasks.proofs.Padded.{padded_in}
use Rattle.tasks.specs.Answers.{Answer, Accepted, Refused}
use Rattle.tasks.specs.declared.Table.{Table}
use Rattle.tasks.specs.declared.Task.{Task}
use Rattle.bounds.specs.Asking.{bound_asked}
use Rattle.plans.specs.Pieces.{no_piece, task_of, piece_of, SamePlan}
use Rattle.plans.specs.Shape.{shape, checked_plan}
use Rattle.plans.specs.declared.Piece.{Piece}
use Rattle.plans.proofs.InShape.{accepted_plan}
use Rattle.bounds.proofs.Accepted.{plan_moderate, asked_refused}
use Rattle.plans.proofs.SamePlans.{checked_same}
use Rattle.lending.specs.Recorded.{recorded}
use Rattle.lending.specs.Lent.{lent_plan}
use Rattle.lending.proofs.SameBounds.{asked_same}

shape_long : (m count : ℕ) (ts : ℕ → Task) (pc : ℕ → Piece) (n : ℕ) → 128 < n → shape m count ts pc n ≡ false
unfolding shape
shape_long m count ts pc n h = rw (le-leb 1 n (omega arith), lt-leb n 128 h)

module _ (t : Table) (ys : List Piece) where
  pub few_same : length ys ≤ 128 → SamePlan (recorded t ys) (lent_plan t ys)
  unfolding recorded
  few_same h = record {
    cores = refl;
    count = refl;
    tasks = λ i l. refl;
    placed = refl;
    pieces = λ j l. padded_in 128 no_piece (length ys) (λ i. get_or ys i no_piece) j l (omega arith);
  }

  long_refused : 128 < length ys → checked_plan (recorded t ys) ≡ checked_plan (lent_plan t ys)
  unfolding checked_plan recorded
  long_refused h = rw (
    shape_long t.cores t.count (task_of (recorded t ys)) (piece_of (recorded t ys)) (length ys) h,
    shape_long t.cores t.count (task_of (lent_plan t ys)) (piece_of (lent_plan t ys)) (length ys) h,
  )

  pub checked_lent : checked_plan (recorded t ys) ≡ checked_plan (lent_plan t ys)
  checked_lent = go (dec_lt 128 (length ys))
    where
      go : Dec (128 < length ys) → checked_plan (recorded t ys) ≡ checked_plan (lent_plan t ys)
      go (yes h) = long_refused h
      go (no h) = checked_same (recorded t ys) (lent_plan t ys) (few_same (omega arith))

  -- an accepted plan has all the pieces
  pub accepted_same : checked_plan (recorded t ys) ≡ Accepted → SamePlan (recorded t ys) (lent_plan t ys)
  accepted_same h = few_same (plan_moderate (lent_plan t ys) (accepted_plan (lent_plan t ys) (sym checked_lent ∙ h))).few

  pub asked_lent : (q : ℕ) → bound_asked (recorded t ys) q ≡ bound_asked (lent_plan t ys) q
  asked_lent q = go (checked_plan (recorded t ys)) refl
    where
      go : (x : Answer) → checked_plan (recorded t ys) ≡ x → bound_asked (recorded t ys) q ≡ bound_asked (lent_plan t ys) q
      go (Refused r) c = asked_refused (recorded t ys) q r c ∙ sym (asked_refused (lent_plan t ys) q r (sym checked_lent ∙ c))
      go Accepted c = asked_same (recorded t ys) (lent_plan t ys) (accepted_same c) q
