use mathlib.Core.Bool.{false}
use mathlib.Core.Path.{◌≡◌, refl, ap, ◌∙◌}
use Prim.Native.Nat.{min}
use native.Mathlib.Omega.{arith}
use Rattle.tasks.proofs.Tabulate.{tabulate_start}
use lib.ListN.{length}
use Rattle.std.proofs.lemmas.List.{length-take}
use Rattle.tasks.specs.Tables.{task_no}
use Rattle.tasks.specs.declared.TaskNo.{TaskNo}
use Rattle.tasks.proofs.Slices.{part_read}
use Rattle.tasks.specs.Below.{any}
use Rattle.jobs.specs.Sets.{member}
use Rattle.jobs.proofs.Walks.{marks_more}
use Rattle.jobs.proofs.marks.Goals as goal

pub loop-task-init : goal.loop-task-init
unfolding any
loop-task-init c = tabulate_start 256 false _ (λ i l. refl)

pub loop-task-preserved : goal.loop-task-preserved
loop-task-preserved c =
    let r = part_read c.min.result c.args.tasks.members c.loop-task.task-index (task_no 0) c.loop-task-test.true in
    marks_more 256 _ _ _ _ c.loop-task.invariant (c.index.ensures.0 ∙ ap (λ (t : TaskNo). t.0) r.1) c.index.ensures.1

pub returns : goal.returns
unfolding member
returns c =
    let l : length c.args.tasks.members ≡ 64 = c.well_formed.0.1.1.0.1.0.1 in
    let e : c.loop-task.task-index ≡ min c.args.tasks.count 64 = omega (arith, c.min.ensures, length-take c.min.result c.args.tasks.members, l, c.loop-task.auto.task-index-end, c.loop-task-test.false) in
    simp (c.loop-task.invariant, e)
