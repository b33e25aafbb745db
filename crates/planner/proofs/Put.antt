-- One piece more in a plan, and one core closed: what is where.
use mathlib.Core.Path.{◌≡◌, ◌∙◌}
use mathlib.Core.Bool.{Bool, true, false}
use mathlib.Core.List.{List}
use Prim.Native.Nat.{ℕ, ◌+◌, ◌<◌}
use native.Mathlib.Decide.{ℕ_discrete}
use native.Mathlib.Omega.{arith}
use lib.ListN.{length, get_or, set, length-set}
use lib.Seq.{get_or-set_same, get_or-set_other}
use Rattle.plans.specs.Pieces.{no_piece, piece_of}
use Rattle.plans.specs.declared.Piece.{Piece}
use Rattle.plans.specs.declared.Plan.{Plan}
use Rattle.planner.specs.Whole.{put, is_closed}

module _ (z : Piece) (w : Plan) where
  pub put_length : length (put z w).pieces ≡ length w.pieces
  unfolding put
  put_length = length-set w.pieces w.placed z

  pub put_old : (j : ℕ) → j < w.placed → piece_of (put z w) j ≡ piece_of w j
  unfolding put
  put_old j h = get_or-set_other w.pieces w.placed j z no_piece (λ e. omega arith)

  pub put_past : (j : ℕ) → w.placed < j → piece_of (put z w) j ≡ piece_of w j
  unfolding put
  put_past j h = get_or-set_other w.pieces w.placed j z no_piece (λ e. omega arith)

  module _ (room : w.placed < length w.pieces) where
    pub put_new : piece_of (put z w) w.placed ≡ z
    unfolding put
    put_new = get_or-set_same w.pieces w.placed z no_piece room

    -- what holds of the new piece and of each before it holds of each
    pub put_each : (Q : Piece → Type 0) → Q z → ((q : ℕ) → q < w.placed → Q (piece_of w q)) → (q : ℕ) → q < w.placed + 1 → Q (piece_of (put z w) q)
    put_each Q a h q l = go (ℕ_discrete q w.placed)
      where
        go : Dec (q ≡ w.placed) → Q (piece_of (put z w) q)
        go (yes e) = rw (e, put_new) a
        go (no e) = rw (put_old q (omega arith)) (h q (omega arith))

-- a core that is closed stays closed when another is
pub close_stays : (closed : List Bool) (x y : ℕ) → x < length closed → is_closed closed y ≡ true → is_closed (set closed x true) y ≡ true
close_stays closed x y h e = go (ℕ_discrete y x)
  where
    go : Dec (y ≡ x) → get_or (set closed x true) y false ≡ true
    go (yes q) = rw q (get_or-set_same closed x true false h)
    go (no q) = get_or-set_other closed x y true false q ∙ e
