use Prim.Native.Nat.{ℕ, ◌<◌}
use mathlib.Core.Path.{◌≡◌}
use mathlib.Core.Bool.{false}
use Rattle.plans.specs.declared.Piece.{Piece}
use Rattle.planner.specs.Whole.{takes_whole}
use Rattle.planner.proofs.Trying.{holding}
use Rattle.planner.proofs.Draft.lowest_whole.Given as goal

abbrev pub invariant-loop-x : goal.invariant-loop-x
invariant-loop-x l =
    ((z : Piece) → holding l.w l.at z ≡ holding l.initial.w l.at z) × ((k : ℕ) → k < l.x → takes_whole l.fn.self l.task.0 k ≡ false)
