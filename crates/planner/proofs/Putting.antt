-- A piece of the task whose turn it is leaves a plan of which the next search may ask the same.
use mathlib.Core.Path.{◌≡◌}
use Prim.Native.Nat.{ℕ, ◌≤◌, ◌<◌}
use native.Mathlib.Omega.{arith}
use lib.ListN.{length}
use Rattle.bounds.specs.Leaves.{Moderate}
use Rattle.plans.specs.Pieces.{task_of}
use Rattle.plans.specs.declared.Piece.{Piece}
use Rattle.plans.specs.declared.Plan.{Plan}
use Rattle.planner.proofs.Drafts.{put_moderate}
use Rattle.planner.specs.Asked.{Ready}
use Rattle.planner.specs.Whole.{put}

module _ (z : Piece) (w : Plan) (i : ℕ) (long : length w.pieces ≡ 128) (room : w.placed < 128) (r : Ready w i) (own : z.task.0 ≡ i) (cost : z.cost ≤ (task_of w i).cost) where
  pub stays_moderate : Moderate (put z w)
  stays_moderate = put_moderate z w long room r.moderate (rw own r.known) (rw own (omega (arith, r.fits, r.some))) (rw own (omega (arith, r.fits))) (rw own r.short) (rw own r.most)

  pub stays_ready : Ready (put z w) i
  unfolding put stays_moderate
  stays_ready = record {
    moderate = stays_moderate;
    known = r.known;
    some = r.some;
    fits = r.fits;
    short = r.short;
    most = r.most;
    cores = r.cores;
  }
