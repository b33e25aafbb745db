use Prim.Native.Nat.{◌*◌}
use lib.ListN.{get_or}
use Rattle.tasks.specs.Below.{row}
use Rattle.plans.specs.Pieces.{task_of}
use Rattle.texts.proofs.Putting.{Put}
use Rattle.ticklines.specs.Responses.{response_text}
use Rattle.ticklines.proofs.watched.Given as goal

abbrev pub invariant-loop-i : goal.invariant-loop-i
invariant-loop-i l = Put l.initial.text (l.i * 86) (row l.i (λ k. response_text k (get_or l.watched.longest k 0) (task_of l.plan k).deadline)) l.text
