use mathlib.Core.Path.{◌≡◌}
use Prim.Native.Nat.{◌≤◌}
use Rattle.tasks.specs.Below.{count as counted}
use Rattle.dispatch.specs.Rules.{preempted}
use Rattle.dispatch.specs.declared.State.{State}
use Rattle.dispatch.proofs.State.count_preempted.Given as goal

abbrev pub invariant-loop-x : goal.invariant-loop-x
invariant-loop-x l = (l.count ≤ l.x) × ((after : State) → after.jobs ≡ l.fn.jobs → after.last ≡ l.fn.last → l.count ≡ counted l.x (preempted after l.self))
