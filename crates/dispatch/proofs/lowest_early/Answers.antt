use mathlib.Core.Path.{◌≡◌, refl, ap}
use lib.ListN.{length}
use Rattle.tasks.specs.Tables.{task_no}
use Rattle.tasks.specs.declared.TaskNo.{TaskNo}
use Rattle.tasks.proofs.Slices.{part_read}
use Rattle.dispatch.proofs.Judging.{soon_after, active_after, soon_read, active_read, lowest_start, lowest_turn, lowest_all}
use Rattle.dispatch.proofs.lowest_early.Goals as goal

pub loop-task-init : goal.loop-task-init
loop-task-init c = let a = c.args in (lowest_start a.released (soon_after a.plan a.finished a.state), lowest_start a.released (active_after a.plan a.finished a.state))

pub loop-task-preserved : goal.loop-task-preserved
loop-task-preserved c =
    let a = c.args in
    let r = part_read c.min.result a.released.members c.loop-task.task-index (task_no 0) c.loop-task-test.true in
    let m = ap (λ (u : TaskNo). u.0) r.1 in
    let t = c.index-t.ensures in (
      lowest_turn a.released (soon_after a.plan a.finished a.state) c.loop-task.task-index _ c.index-t.result _ _ _ c.loop-task.invariant.0 m t.0 t.1 (soon_read a.plan a.state a.finished _ _ c.min-known.ensures _ refl _ c.once_released.ensures) c.lower-soon.ensures,
      lowest_turn a.released (active_after a.plan a.finished a.state) c.loop-task.task-index _ c.index-t.result _ _ _ c.loop-task.invariant.1 m t.0 t.1 (active_read a.plan a.state a.finished _ _ c.min-known.ensures _ refl _ c.is_active.ensures _ c.marks-ended.ensures t.1) c.lower-active.ensures,
    )

pub returns : goal.returns
returns c =
    let a = c.args in
    let size : length a.released.members ≡ 64 = c.well_formed.1.1.1.0.1.1.0.1.0.1 in
    let w = c.loop-task in
    record {
      soon = lowest_all a.released (soon_after a.plan a.finished a.state) _ _ _ size c.min.ensures w.auto.task-index-end c.loop-task-test.false w.invariant.0;
      active = lowest_all a.released (active_after a.plan a.finished a.state) _ _ _ size c.min.ensures w.auto.task-index-end c.loop-task-test.false w.invariant.1;
    }
