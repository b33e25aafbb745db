use Prim.Native.Nat.{◌≤◌, ◌-◌}
use Rattle.board.proofs.Turns.{Kept}
use Rattle.fullrate.specs.Watching.{none_finished, all_released, saw}
use Rattle.fullrate.proofs.watch_from.Given as goal

abbrev pub invariant-loop-n : goal.invariant-loop-n
invariant-loop-n l = (l.n ≤ l.ticks) × Kept none_finished all_released saw l.plan l.initial.seen l.initial.state l.n l.seen l.state

abbrev pub decreases-loop-n : goal.decreases-loop-n
decreases-loop-n l = l.ticks - l.n
