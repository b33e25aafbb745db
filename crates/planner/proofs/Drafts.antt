-- What holds of every draft that the layout of a good table reaches: its lists are of a record's length, its numbers are a good table's, and it never overruns them.
use mathlib.Core.Path.{◌≡◌, refl, ap, ◌∙◌}
use mathlib.Core.Bool.{Bool, false, cond}
use mathlib.Core.List.{List}
use Prim.Native.Nat.{ℕ, suc, ◌+◌, ◌≤◌, ◌<◌}
use native.Mathlib.Decide.{ℕ_discrete}
use native.Mathlib.Numerals.{add-one}
use native.Mathlib.Omega.{arith}
use lib.Dec.{eqb}
use lib.ListN.{length, length-replicate}
use borrow.Author.Tests.{eq-eqb}
use Rattle.tasks.proofs.Below.{sum_member, count_le}
use Rattle.tasks.proofs.Padded.{padded_in}
use Rattle.tasks.proofs.Tables.{GoodTable, Ranges, accepted_good}
use Rattle.tasks.specs.Tables.{no_task, checked_table}
use Rattle.tasks.specs.Tables as table
use Rattle.tasks.specs.Answers.{Accepted}
use Rattle.tasks.specs.declared.Table.{Table}
use Rattle.tasks.proofs.Tabulate.{replicate_at}
use Rattle.bounds.specs.Leaves.{Moderate}
use Rattle.plans.specs.Pieces.{no_piece, task_of, piece_of, costs}
use Rattle.plans.specs.declared.Piece.{Piece}
use Rattle.plans.specs.declared.Plan.{Plan}
use Rattle.planner.specs.Layout.{start}
use Rattle.planner.specs.Whole.{put, is_closed}
use Rattle.planner.specs.declared.Draft.{Draft}
use Rattle.planner.proofs.Laid.{Laid, laid_start, open_cores}
use Rattle.planner.proofs.Put.{put_length, put_past, put_each}

-- the draft while task i is laid out, with `need` of its cost still to be placed on core x or above
pub record Drafted (i need x : ℕ) (d : Draft) : Type 0 where
  pub good : GoodTable d.plan.cores d.plan.count (task_of d.plan)
  pub long : length d.plan.pieces ≡ 128
  pub wide : length d.closed ≡ 16
  pub clean : (j : ℕ) → d.plan.placed ≤ j → piece_of d.plan j ≡ no_piece
  pub laid : Laid d.plan.cores d.plan.count (task_of d.plan) (piece_of d.plan) d.plan.placed (is_closed d.closed) i need x

-- the draft when the tasks before i are laid out and nothing of task i is
abbrev pub LaidBefore : ℕ → Draft → Type 0
LaidBefore i d = Drafted i (task_of d.plan i).cost 0 d

-- one piece more of a plan whose numbers are moderate
pub put_moderate : (z : Piece) (w : Plan) → length w.pieces ≡ 128 → w.placed < 128 → Moderate w → z.task.0 < 64 → 0 < (task_of w z.task.0).period
    → z.cost ≤ (task_of w z.task.0).period → (task_of w z.task.0).deadline ≤ 1000000 → (task_of w z.task.0).period ≤ 1000000 → Moderate (put z w)
unfolding put
put_moderate z w long room M a b c d e =
    let inside : w.placed < length w.pieces = omega arith in
    record {
      few = omega arith;
      owned = put_each z w inside (λ y. y.task.0 < 64) a M.owned;
      positive = put_each z w inside (λ y. 0 < (task_of w y.task.0).period) b M.positive;
      fits = put_each z w inside (λ y. y.cost ≤ (task_of w y.task.0).period) c M.fits;
      short = put_each z w inside (λ y. (task_of w y.task.0).deadline ≤ 1000000) d M.short;
      most = put_each z w inside (λ y. (task_of w y.task.0).period ≤ 1000000) e M.most;
    }

module _ (i need x : ℕ) (d : Draft) (D : Drafted i need x d) where
  -- a piece for each task before i, and one for each core that is closed
  pub drafted_few : d.plan.placed ≤ i + d.plan.cores
  drafted_few = omega (arith, D.laid.few)

  pub drafted_room : i ≤ d.plan.count → d.plan.placed < 128
  drafted_room h = omega (arith, drafted_few, D.good.cores.1, D.good.tasks.1)

  drafted_range : (q : ℕ) → q < d.plan.placed → Ranges (task_of d.plan (piece_of d.plan q).task.0)
  drafted_range q h = D.good.values _ (D.laid.owned q h)

  -- a piece costs at most what its task does
  pub drafted_cost : (q : ℕ) → q < d.plan.placed → (piece_of d.plan q).cost ≤ (task_of d.plan (piece_of d.plan q).task.0).cost
  unfolding costs
  drafted_cost q h = go (ℕ_discrete k i)
    where
      k : ℕ
      k = (piece_of d.plan q).task.0

      part : (piece_of d.plan q).cost ≤ costs (piece_of d.plan) k d.plan.placed
      part = rw (eq-eqb k k refl) at (sum_member d.plan.placed (λ j. cond (eqb (piece_of d.plan j).task.0 k) (piece_of d.plan j).cost 0) q h)

      go : Dec (k ≡ i) → (piece_of d.plan q).cost ≤ (task_of d.plan k).cost
      go (yes e) = omega (arith, part, ap (λ (j : ℕ). costs (piece_of d.plan) j d.plan.placed) e, ap (λ (j : ℕ). (task_of d.plan j).cost) e, D.laid.left)
      go (no e) = omega (arith, part, D.laid.full k (omega (arith, D.laid.rising q h)))

  pub drafted_moderate : i ≤ d.plan.count → Moderate d.plan
  drafted_moderate l = record {
    few = omega (arith, drafted_room l);
    owned = λ j h. omega (arith, D.laid.owned j h, D.good.tasks.1);
    positive = λ j h. omega (arith, (drafted_range j h).some, (drafted_range j h).short, (drafted_range j h).inside);
    fits = λ j h. omega (arith, drafted_cost j h, (drafted_range j h).short, (drafted_range j h).inside);
    short = λ j h. omega (arith, (drafted_range j h).inside, (drafted_range j h).most);
    most = λ j h. (drafted_range j h).most;
  }

  module _ (known : i < d.plan.count) where
    pub task_range : Ranges (task_of d.plan i)
    task_range = D.good.values i known

    -- what is laid out with one piece more is a draft's
    pub drafted_put : (z : Piece) (closed : List Bool) → length closed ≡ 16 → (k rest y : ℕ)
        → Laid d.plan.cores d.plan.count (task_of d.plan) (piece_of (put z d.plan)) (suc d.plan.placed) (is_closed closed) k rest y
        → Drafted k rest y (record { plan = put z d.plan; closed = closed })
    unfolding put
    drafted_put z closed wide k rest y L = record {
      good = D.good;
      long = put_length z d.plan ∙ D.long;
      wide = wide;
      clean = λ j h. put_past z d.plan j (omega arith) ∙ D.clean j (omega arith);
      laid = rw add-one L;
    }

-- the start of a good table
module _ (t : Table) (good : checked_table t ≡ Accepted) where
  pub start_task : (i : ℕ) → i < t.count → task_of (start t).plan i ≡ table.task_of t i
  unfolding start
  start_task i h = padded_in 64 no_task t.count (table.task_of t) i h (omega (arith, (accepted_good t.cores t.count (table.task_of t) good).tasks.1))

  start_good : GoodTable t.cores t.count (task_of (start t).plan)
  start_good =
      let g : GoodTable t.cores t.count (table.task_of t) = accepted_good t.cores t.count (table.task_of t) good in
      record { cores = g.cores; tasks = g.tasks; values = λ i h. rw (start_task i h) (g.values i h) }

  pub start_ready : LaidBefore 0 (start t)
  unfolding start open_cores
  start_ready = record {
    good = start_good;
    long = length-replicate 128 no_piece;
    wide = length-replicate 16 false;
    clean = λ j h. replicate_at 128 j no_piece;
    laid = laid_start t.cores t.count (task_of (start t).plan) (piece_of (start t).plan) (is_closed (start t).closed) (count_le t.cores _);
  }
