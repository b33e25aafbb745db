use mathlib.Core.Path.{◌≡◌, ap, ◌∙◌}
use Prim.Native.Nat.{ℕ, ◌<◌}
use native.Mathlib.Omega.{arith}
use lib.ListN.{get_or}
use Rattle.tasks.specs.Tables.{task_no}
use Rattle.jobs.specs.Jobs.{no_run}
use Rattle.dispatch.specs.Rules.{chosen, run, each_job}
use Rattle.dispatch.proofs.Choosing.{stand_is, stand_core, stand_next, ran_turn}
use Rattle.dispatch.proofs.InPlace.{changed, changed_start, changed_same, changed_turn, changed_all}
use Rattle.dispatch.proofs.Reading.{named}
use Rattle.dispatch.proofs.Walks.{padded_has}
use Rattle.dispatch.proofs.State.ran.Invariants.{ran_by}
use Rattle.dispatch.proofs.State.ran.Goals as goal

pub loop-i-init : goal.loop-i-init
loop-i-init c = changed_start _ _ c.requires.3.whole

pub bounds-last-index : goal.bounds-last-index
bounds-last-index c = omega (arith, stand_core c.args.plan _ c.requires.0 _ c.requires.1 c.loop-i.i c.loop-i-test.true, c.index.ensures.0, c.requires.0.cores)

pub ran_job-requires : goal.ran_job-requires
ran_job-requires c = rw (changed_same _ _ _ _ c.loop-i.invariant (omega (arith, c.requires.0.count))) (stand_next c.args.plan _ c.requires.0 _ c.requires.1 c.loop-i.i c.loop-i-test.true)

pub loop-i-preserved : goal.loop-i-preserved
loop-i-preserved c =
    let p = c.args.plan in
    let h : c.loop-i.i < p.count = c.loop-i-test.true in
    let q = stand_is p _ c.requires.0 _ c.requires.1 c.loop-i.i h in
    let x = stand_core p _ c.requires.0 _ c.requires.1 c.loop-i.i h in
    let b : c.loop-i.i < 64 = omega (arith, c.requires.0.count) in
    let same = changed_same _ _ _ _ c.loop-i.invariant b in
    changed_turn _ _ _ _ _ c.loop-i.invariant b (ran_turn p _ c.loop-i.i _ _ _ _ _ same q (ap (λ (k : ℕ). get_or c.args.last k no_run) c.index.ensures.0 ∙ padded_has 16 no_run _ (chosen p _) _ _ c.requires.2 x (omega (arith, x, c.requires.0.cores))) (c.eq-runs.ensures ∙ named (get_or c.args.last c.index.result no_run) (task_no c.loop-i.i)) (c.ran_job.ensures p))

pub returns : goal.returns
unfolding run each_job
returns c =
    let p = c.args.plan in
    let e : c.loop-i.i ≡ p.count = omega (arith, c.loop-i.auto.i-end) in
    let all : c.loop-i.self ≡ each_job p (ran_by p c.args.self) c.args.self = c.loop-i.invariant ∙ ap (changed (ran_by p c.args.self) _) e ∙ changed_all _ _ p c.requires.3 in
    rw (all, c.requires.2)
