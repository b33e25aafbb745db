use Rattle.fullrate.specs.Allowed.{allowed_below}
use Prim.Native.Nat.{min}
use mathlib.Core.Path.{◌≡◌}
use Rattle.fullrate.proofs.all_allowed.Given as goal

abbrev pub invariant-loop-i : goal.invariant-loop-i
invariant-loop-i l = (l.i-end ≡ min l.fn.plan.count 64) × (l.set ≡ allowed_below l.fn.plan l.fn.state l.i)
