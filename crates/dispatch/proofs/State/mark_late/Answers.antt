use mathlib.Core.Bool.{Bool, not, ◌&&◌}
use mathlib.Core.List.{List}
use mathlib.Core.Path.{◌≡◌, refl, sym, ap, ◌∙◌}
use native.Mathlib.Omega.{arith}
use lib.Dec.{eqb}
use lib.ListN.{get_or}
use Rattle.tasks.specs.Tables.{no_task}
use Rattle.tasks.proofs.Below.{count_le}
use Rattle.tasks.specs.Below.{sum, count as counted}
use Rattle.tasks.specs.declared.Task.{Task}
use Rattle.dispatch.specs.Rules.{marked_job, mark_late, each_job}
use Rattle.dispatch.specs.States.{job_of}
use Rattle.dispatch.proofs.InPlace.{changed, changed_start, changed_same, changed_turn, changed_all}
use Rattle.dispatch.proofs.Reading.{turns_at, marked_at, marked_read}
use Rattle.dispatch.proofs.Walks.{count_turn, count_fits}
use Rattle.dispatch.proofs.State.mark_late.Goals as goal

pub loop-i-init : goal.loop-i-init
unfolding counted sum
loop-i-init c = (refl, changed_start (marked_at c.args.tasks) _ c.requires.1.whole)

-- what is read of a job
abbrev turns : goal.After-struct_known-in-loop-i-2-1 → Bool
turns c = let j = job_of c.loop-i.self c.loop-i.i in c.is_active.result && eqb j.age (get_or c.args.tasks c.loop-i.i no_task).deadline && not j.late

pub overflow_add-late : goal.overflow_add-late
overflow_add-late c = count_fits c.loop-i.i c.loop-i.late (turns c) (rw c.loop-i.invariant.0 (count_le _ _)) (omega arith)

pub loop-i-preserved : goal.loop-i-preserved
loop-i-preserved c =
    let ts = c.args.tasks in
    let j = job_of c.loop-i.self c.loop-i.i in
    let h : turns c ≡ turns_at ts c.loop-i.i j = rw c.is_active.ensures in
    let same = changed_same (marked_at ts) _ _ _ c.loop-i.invariant.1 (omega arith) in
    (count_turn _ _ _ _ c.loop-i.invariant.0 (h ∙ ap (turns_at ts c.loop-i.i) same), changed_turn (marked_at ts) _ _ _ _ c.loop-i.invariant.1 (omega arith) (marked_read ts c.loop-i.i j _ h))

pub returns : goal.returns
unfolding mark_late each_job
returns c = λ p h q.
    let s = c.args.self in
    let ts = c.args.tasks in
    let e : c.loop-i.i ≡ p.count = omega (arith, h, c.loop-i.auto.i-end) in
    let all : c.loop-i.self ≡ each_job p (marked_job p) s = c.loop-i.invariant.1 ∙ ap (changed (marked_at ts) s) e ∙ ap (λ (us : List Task). changed (marked_at us) s p.count) (sym q) ∙ changed_all (marked_job p) s p (rw h c.requires.1) in
    rw (c.saturating_add.ensures, all, c.loop-i.invariant.0, e, ← q)
