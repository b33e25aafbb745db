use mathlib.Core.Bool.{not, ◌&&◌}
use mathlib.Core.Path.{◌≡◌, refl, ap, ◌∙◌}
use native.Mathlib.Omega.{arith}
use lib.Dec.{ltb}
use lib.ListN.{length, get_or}
use Rattle.tasks.specs.Below.{sum, count as counted}
use Rattle.jobs.specs.Jobs.{no_run, Idle}
use Rattle.jobs.proofs.Runners.{idle_else}
use Rattle.dispatch.specs.States.{last_of}
use Rattle.dispatch.specs.Rules.{count_preempted}
use Rattle.dispatch.proofs.Reading.{named, pushed_none, pushed_read}
use Rattle.dispatch.proofs.Walks.{count_turn, count_stay, count_least}
use Rattle.dispatch.proofs.State.count_preempted.Goals as goal
use Rattle.dispatch.proofs.State.count_preempted.Goals.{in-Some, in_default}

pub loop-x-init : goal.loop-x-init
unfolding counted sum
loop-x-init c = (omega arith, λ after j l. refl)

pub loop-x-preserved : goal.loop-x-preserved
loop-x-preserved c =
    let a = c.args in
    let n = c.loop-x.invariant in
    let size : length a.jobs ≡ 64 = c.well_formed.1.1.0.1.0.1 in
    elim c.match-before.branch [
      | in-Some w ↦
          let t = w.index-t.result in
          let pushed = ltb t 64 && w.is_active.result && w.ne-gone.result in (
            rw w.count-is (count_least _ _ pushed n.0),
            λ after j l. w.count-is ∙ count_turn _ _ _ pushed (n.1 after j l) (rw w.index-t.ensures.0 (pushed_read after a.self a.last c.loop-x.x l a.jobs _ w.in-Some.task _ _ size j w.in-Some.is (rw (← w.index-t.ensures.0) w.min.ensures) w.is_active.ensures (w.ne-gone.ensures ∙ ap not (named (last_of a.self c.loop-x.x) w.in-Some.task)))),
          )
      | in_default w ↦
          let none : get_or a.last c.loop-x.x no_run ≡ Idle = idle_else _ w.in_default.not-Some in (
            rw w.count-is (omega (arith, n.0)),
            λ after j l. w.count-is ∙ count_stay _ _ _ (n.1 after j l) (pushed_none after a.self a.last c.loop-x.x l none),
          )
    ]

pub returns : goal.returns
unfolding count_preempted
returns c = λ p after h j l. let e : c.loop-x.x ≡ c.args.cores = omega (arith, c.loop-x.auto.x-end) in rw (c.saturating_add.ensures, c.loop-x.invariant.1 after j l, e, h)
