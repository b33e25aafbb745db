-- A list of the pieces of a plan: its numbers are as moderate, and its loads are the same.
use mathlib.Core.Path.{◌≡◌, ap, ◌∙◌}
use mathlib.Core.Bool.{cond}
use mathlib.Core.List.{List}
use Prim.Native.Nat.{ℕ, ◌<◌}
use native.Mathlib.Omega.{arith}
use lib.ListN.{length, get_or, take}
use Rattle.std.proofs.lemmas.List.{length-take, get_or-take}
use Rattle.tasks.proofs.Below.{sum_same}
use Rattle.tasks.specs.declared.Task.{Task}
use Rattle.plans.specs.Interference.{interference}
use Rattle.plans.specs.Pieces.{no_piece, task_of, piece_of}
use Rattle.plans.specs.Rank.{above}
use Rattle.plans.specs.declared.Piece.{Piece}
use Rattle.plans.specs.declared.Plan.{Plan}
use Rattle.bounds.specs.Bound.{load}
use Rattle.bounds.specs.Leaves.{Moderate, listed}

-- the interference of the pieces ranked above b is the same where the first n pieces are
pub load_same : (ts : ℕ → Task) (pc qc : ℕ → Piece) (n : ℕ) → ((j : ℕ) → j < n → pc j ≡ qc j) → (b : Piece) (L : ℕ) → load ts pc n b L ≡ load ts qc n b L
unfolding load
load_same ts pc qc n same b L = sum_same n _ _ (λ j l. ap (λ (z : Piece). cond (above ts z b) (interference z.cost (ts z.task.0).period L) 0) (same j l))

-- a list of a plan's pieces
module _ (p : Plan) (ys : List Piece) (all : length ys ≡ p.placed) (each : (j : ℕ) → j < length ys → get_or ys j no_piece ≡ piece_of p j) where
  pub list_moderate : Moderate p → Moderate (listed p.tasks ys)
  list_moderate M = record {
    few = omega (arith, M.few);
    owned = λ j h. rw (each j h) (M.owned j (omega arith));
    positive = λ j h. rw (each j h) (M.positive j (omega arith));
    fits = λ j h. rw (each j h) (M.fits j (omega arith));
    short = λ j h. rw (each j h) (M.short j (omega arith));
    most = λ j h. rw (each j h) (M.most j (omega arith));
  }

  pub list_load : (b : Piece) (L : ℕ) → load (task_of (listed p.tasks ys)) (piece_of (listed p.tasks ys)) (length ys) b L ≡ load (task_of p) (piece_of p) p.placed b L
  list_load b L = load_same (task_of p) (piece_of (listed p.tasks ys)) (piece_of p) (length ys) each b L ∙ ap (λ (n : ℕ). load (task_of p) (piece_of p) n b L) all

-- the part of a plan's record that it has
pub part_load : (p : Plan) → Moderate p → length p.pieces ≡ 128 → (b : Piece) (L : ℕ)
    → load (task_of (listed p.tasks (take p.placed p.pieces))) (piece_of (listed p.tasks (take p.placed p.pieces))) (length (take p.placed p.pieces)) b L ≡ load (task_of p) (piece_of p) p.placed b L
part_load p M long = list_load p (take p.placed p.pieces) all (λ j h. get_or-take p.placed p.pieces j no_piece (omega (arith, all)))
  where
    all : length (take p.placed p.pieces) ≡ p.placed
    all = omega (arith, length-take p.placed p.pieces, M.few)
