use mathlib.Core.Path.{refl}
use Rattle.dispatch.specs.Advance.{next_state}
use Rattle.dispatch.proofs.Checked.{good, sound}
use Rattle.dispatch.proofs.Steps.{finish_filled, mark_filled, release_filled, run_filled, ready_pieces}
use Rattle.dispatch.proofs.State.next.Goals as goal

pub finish-after-requires : goal.finish-after-requires
finish-after-requires c = (good c.args.plan c.requires.0).count

pub mark_late-requires : goal.mark_late-requires
mark_late-requires c = let p = c.args.plan in ((good p c.requires.0).count, rw (c.finish-after.ensures p refl) (finish_filled p c.args.self c.args.finished))

pub first_pieces-requires : goal.first_pieces-requires
first_pieces-requires c = (good c.args.plan c.requires.0).placed

pub release-requires : goal.release-requires
release-requires c = let p = c.args.plan in ((good p c.requires.0).count, rw (c.mark_late.ensures p refl refl) (mark_filled p _))

pub run-requires : goal.run-requires
run-requires c = let p = c.args.plan in let g = good p c.requires.0 in (sound p g, rw (c.release.ensures p refl c.first_pieces.ensures, c.mark_late.ensures p refl refl, c.finish-after.ensures p refl) (ready_pieces p g c.args.finished c.args.released c.args.self c.requires.1), rw (c.release.ensures p refl c.first_pieces.ensures) (release_filled p _ c.args.released))

pub count_preempted-requires : goal.count_preempted-requires
count_preempted-requires c = (good c.args.plan c.requires.0).cores

pub age-requires : goal.age-requires
age-requires c =
    let p = c.args.plan in
    ((good p c.requires.0).count, rw (c.count_preempted.ensures p c.finish-after.result refl refl refl, c.run.ensures) (run_filled p _ c.finish-after.result))

pub returns : goal.returns
unfolding next_state
returns c =
    let p = c.args.plan in
    simp (c.age.ensures p refl refl, c.count_preempted.ensures p c.finish-after.result refl refl refl, c.run.ensures, c.release.ensures p refl c.first_pieces.ensures, c.mark_late.ensures p refl refl, c.finish-after.ensures p refl)
