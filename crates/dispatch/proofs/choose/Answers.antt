use Prim.Native.Nat.{ℕ, ◌<◌}
use mathlib.Core.Path.{◌≡◌, sym, ap, ◌∙◌}
use lib.ListN.{get_or}
use Rattle.tasks.specs.declared.TaskNo.{TaskNo}
use Rattle.jobs.specs.Jobs.{no_run, Runs}
use Rattle.dispatch.specs.Choice.{no_stand}
use native.Mathlib.Omega.{arith}
use Rattle.dispatch.proofs.Choosing.{found_start, core_in_lem, held_below, choose_turn}
use Rattle.dispatch.proofs.choose.Goals as goal
use Rattle.dispatch.proofs.choose.Goals.{in-Some, in-None}

-- the job's core is one of the plan's
on_core : (c : goal.After-index-x) → c.index-x.result < c.args.plan.cores
on_core c =
    let pre = c.requires in
    core_in_lem c.args.plan pre.1.0 pre.0 _ pre.1.1 c.loop-i.i c.loop-i-test.true _ (c.loop-i.invariant pre.1.0 pre.1.1) _ c.index-x.ensures.0

-- what was found on the core, and where the job of that task stands
held_read : (c : goal.After-better) → (c.match-found.found ≡ get_or c.loop-i.runs c.index-x.result no_run) × ((t : TaskNo) → get_or c.loop-i.runs c.index-x.result no_run ≡ Runs t → c.match-found.held ≡ get_or c.args.stands t.0 no_stand)
held_read c = elim c.match-found.branch [
  | in-Some w ↦ (w.found-is ∙ sym w.in-Some.is, λ t e. let k : w.in-Some.task ≡ t = cc in rw (← k) (w.held-is ∙ ap (λ (i : ℕ). get_or c.args.stands i no_stand) w.index.ensures.0))
  | in-None w ↦ (w.found-is, λ t e. cc)
]

pub loop-i-init : goal.loop-i-init
loop-i-init c = λ s e. found_start _ s

pub bounds-runs-x : goal.bounds-runs-x
bounds-runs-x c = omega (arith, on_core c, c.requires.0.cores)

pub bounds-stands-index : goal.bounds-stands-index
bounds-stands-index c =
    let pre = c.requires in
    omega (arith, held_below c.args.plan pre.1.0 pre.0 _ pre.1.1 c.loop-i.i c.loop-i-test.true _ (c.loop-i.invariant pre.1.0 pre.1.1) _ c.index-x.ensures.0 _ c.in-Some.is, c.index.ensures.0, pre.0.count)

pub bounds-runs-x-in-loop-i : goal.bounds-runs-x-in-loop-i
bounds-runs-x-in-loop-i c = omega (arith, on_core c.before.before.before, c.requires.0.cores)

pub loop-i-preserved : goal.loop-i-preserved
loop-i-preserved c =
    let p = c.args.plan in
    let h = held_read c in
    λ s e. choose_turn p s c.requires.0 _ e c.loop-i.i c.loop-i-test.true _ (c.loop-i.invariant s e) _ c.index-x.ensures.0 c.match-found.held _ h.1 (rw (← h.0) (c.better.ensures p s))
