use borrow.Author.Rules.{rules}
use native.Mathlib.Omega.{arith}
use Rattle.texts.proofs.Putting.{no_room, has_room}
use Rattle.playback.proofs.Course.{playing_within, playing_next, playing_short, playing_stuck, comes_in}
use Rattle.playback.proofs.advance.Goals as goal
use Rattle.playback.proofs.advance.Goals.{else-loop-plan-test, then-loop-plan-test+in_default}

pub loop-plan-smaller : goal.loop-plan-smaller
loop-plan-smaller c = let w = playing_within c.loop-plan.invariant _ _ c.judge.ensures c.in-Ok.is in omega arith

pub overflow_add-at : goal.overflow_add-at
overflow_add-at c = let w = playing_within c.loop-plan.invariant _ _ c.judge.ensures c.in-Ok.is in record { fits = omega arith }

pub loop-plan-preserved : goal.loop-plan-preserved
loop-plan-preserved c = playing_next c.loop-plan.invariant _ _ c.judge.ensures c.in-Ok.is _ c.asked-made.ensures (has_room c.is_short.ensures c.loop-plan-test.true) c.ticked.ensures

pub returns : goal.returns
returns c = elim c.loop-plan-test.branch [
  | else-loop-plan-test w ↦ comes_in (search rules) (playing_short c.loop-plan.invariant (no_room c.is_short.ensures w.loop-plan-test.false))
  | then-loop-plan-test+in_default w ↦ comes_in (search rules) (playing_stuck c.loop-plan.invariant _ _ w.judge.ensures w.in_default.is)
]
