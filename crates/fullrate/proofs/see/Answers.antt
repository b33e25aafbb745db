use mathlib.Core.Path.{◌≡◌, sym, ap, ◌∙◌}
use Prim.Native.Nat.{max}
use native.Mathlib.Omega.{arith}
use lib.ListN.{get_or}
use Rattle.tasks.proofs.Tabulate.{padded_start}
use Rattle.tasks.proofs.Padded.{padded_turn}
use Rattle.fullrate.specs.Watched.{seen}
use Rattle.fullrate.proofs.see.Goals as goal
use Rattle.fullrate.proofs.see.Goals.{then-runs, else-runs}

-- what is seen of the task
response : (c : goal.After-max) → c.if-runs.response ≡ seen c.args.plan.cores c.args.ran.runs c.args.state c.loop-i.i
response c = elim c.if-runs.branch [
  | then-runs w ↦ w.response-is ∙ rw (sym c.ran_in-runs.ensures ∙ w.if-runs.true)
  | else-runs w ↦ w.response-is ∙ rw (sym c.ran_in-runs.ensures ∙ w.if-runs.false)
]

pub loop-i-init : goal.loop-i-init
loop-i-init c = (c.min-i-end.ensures, padded_start 64 0 _)

pub loop-i-preserved : goal.loop-i-preserved
loop-i-preserved c = (c.loop-i.invariant.0, padded_turn 64 0 _ _ _ _ (omega arith) c.loop-i.invariant.1 (c.max.ensures ∙ ap (max (get_or c.args.seen.longest c.loop-i.i 0)) (response c)))
