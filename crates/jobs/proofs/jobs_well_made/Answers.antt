use mathlib.Core.Path.{◌≡◌, refl, ap, sym}
use Prim.Native.Nat.{min}
use native.Mathlib.Omega.{arith}
use lib.ListN.{length}
use Rattle.tasks.specs.Below.{all}
use Rattle.plans.specs.Pieces.{piece_of}
use Rattle.jobs.proofs.Making.{all_turn, jobs_read}
use Rattle.jobs.proofs.jobs_well_made.Goals as goal

pub loop-i-init : goal.loop-i-init
unfolding all
loop-i-init c = (c.min-i-end.ensures, refl)

pub loop-i-preserved : goal.loop-i-preserved
loop-i-preserved c =
    let p = c.args.plan in
    let l : length p.pieces ≡ 128 = c.well_formed.0.1.1.1.1.1.1.0.1.0.1 in
    (c.loop-i.invariant.0, all_turn _ _ _ _ c.loop-i.invariant.1 (c.job_well_made-good.ensures p l refl refl (ap (piece_of p) (sym c.min.ensures))))

pub returns : goal.returns
returns c =
    let l : length c.args.jobs ≡ 64 = c.well_formed.1.0.1.0.1 in
    let e : c.loop-i.i ≡ min c.args.plan.count 64 = omega (arith, c.min-i-end.ensures, c.loop-i.auto.i-end) in
    rw (c.loop-i.invariant.1, e) (jobs_read c.args.plan c.args.jobs l)
