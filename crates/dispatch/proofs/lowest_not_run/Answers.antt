use mathlib.Core.Bool.{Bool, true, false, ◌&&◌}
use mathlib.Core.Path.{◌≡◌, refl, ap, ◌∙◌}
use Prim.Native.Nat.{ℕ, min}
use native.Mathlib.Omega.{arith}
use lib.ListN.{length, get_or}
use Rattle.tasks.specs.Tables.{task_no}
use Rattle.tasks.specs.declared.TaskNo.{TaskNo}
use Rattle.tasks.proofs.Slices.{part_read}
use Rattle.jobs.proofs.Runners.{idle_else}
use Rattle.tasks.proofs.Tabulate.{tabulate_start}
use Rattle.tasks.proofs.Below.{first_same}
use Rattle.tasks.specs.Below.{tabulate}
use Rattle.jobs.specs.Sets.{member}
use Rattle.dispatch.proofs.Judging.{not_run_on, none_run, run_more, run_none, run_read, lowest_start, lowest_turn, lowest_all}
use Rattle.dispatch.proofs.lowest_not_run.Goals as goal
use Rattle.dispatch.proofs.lowest_not_run.Goals.{in-Some, in_default}

pub loop-x-init : goal.loop-x-init
loop-x-init c = (c.min-x-end.ensures, tabulate_start 256 true _ (none_run c.args.count c.args.last))

pub loop-x-preserved : goal.loop-x-preserved
loop-x-preserved c =
    let a = c.args in
    let n = c.loop-x.invariant in
    elim c.match-ran.branch [
      | in-Some w ↦ (n.0, w.wrong-is ∙ run_more a.count a.last _ c.loop-x.x n.1 w.in-Some.task w.in-Some.is _ w.index-t.ensures.0 w.index-t.ensures.1)
      | in_default w ↦ (n.0, w.wrong-is ∙ run_none a.count a.last _ c.loop-x.x n.1 (idle_else _ w.in_default.not-Some))
    ]

pub loop-task-init : goal.loop-task-init
loop-task-init c = lowest_start c.args.finished (λ t. get_or c.loop-x.wrong t false)

pub loop-task-preserved : goal.loop-task-preserved
loop-task-preserved c =
    let r = part_read c.min.result c.args.finished.members c.loop-task.task-index (task_no 0) c.loop-task-test.true in
    lowest_turn c.args.finished (λ t. get_or c.loop-x.wrong t false) c.loop-task.task-index _ c.index.result _ _ _ c.loop-task.invariant (ap (λ (t : TaskNo). t.0) r.1) c.index.ensures.0 c.index.ensures.1 refl c.lower-low.ensures

pub returns : goal.returns
returns c = λ p s h k l.
    let a = c.args in
    let size : length a.finished.members ≡ 64 = c.well_formed.1.1.1.0.1.1.0.1.0.1 in
    let d : c.loop-x.x ≡ min p.cores 16 = omega (arith, k, c.min-x-end.ensures, c.loop-x.auto.x-end) in
    lowest_all a.finished (λ t. get_or c.loop-x.wrong t false) _ _ _ size c.min.ensures c.loop-task.auto.task-index-end c.loop-task-test.false c.loop-task.invariant ∙ first_same 256 _ _ (λ t m. ap (λ (z : Bool). member a.finished t && z) (run_read a.count a.last p s c.loop-x.wrong c.well_formed.1.1.0.1.0.1 h l (c.loop-x.invariant.1 ∙ ap (λ (n : ℕ). tabulate 256 (not_run_on a.count a.last n)) d) t m))
