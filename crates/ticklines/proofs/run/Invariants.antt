use mathlib.Core.Path.{◌≡◌}
use Prim.Native.Nat.{◌*◌}
use Rattle.tasks.specs.Below.{row}
use Rattle.fullrate.specs.FullRate.{full_tick, state_after}
use Rattle.texts.proofs.Putting.{Put}
use Rattle.ticklines.specs.Lines.{ticked_text}
use Rattle.ticklines.proofs.run.Given as goal

abbrev pub invariant-loop-n : goal.invariant-loop-n
invariant-loop-n l = (l.state ≡ state_after l.plan l._n) × Put l.initial.text (l._n * 337) (row l._n (λ k. ticked_text l.plan.cores (full_tick l.plan (state_after l.plan k)))) l.text
