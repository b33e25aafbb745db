use mathlib.Core.List.{◌++◌}
use Prim.Native.Nat.{◌*◌}
use lib.ListN.{get_or}
use Rattle.tasks.specs.Below.{row}
use Rattle.jobs.specs.Jobs.{no_run}
use Rattle.texts.proofs.Putting.{Put}
use Rattle.ticklines.specs.Lines.{gap_text, runner_text}
use Rattle.ticklines.proofs.runs.Given as goal

abbrev pub invariant-loop-x : goal.invariant-loop-x
invariant-loop-x l = Put l.initial.text (l.x * 21) (row l.x (λ y. gap_text y ++ runner_text (get_or l.fn.ran.runs y no_run))) l.text
