use Prim.Native.Nat.{◌*◌, ◌-◌, ◌≤◌}
use mathlib.Core.Path.{◌≡◌}
use mathlib.Core.Bool.{true}
use Rattle.tasks.specs.Below.{all}
use Rattle.plans.specs.Pieces.{task_of, piece_of}
use Rattle.plans.specs.Shape.{piece_fits}
use Rattle.plans.proofs.Shaped.{so_far}
use Rattle.plans.proofs.pieces_fit.Given as goal

abbrev pub invariant-loop-j : goal.invariant-loop-j
invariant-loop-j l = (l.n ≡ l.plan.placed) × (l.n ≤ 128) × (l.before ≡ piece_of l.plan (l.j - 1)) × (l.spent ≤ l.j * 4294967296) × (l.spent ≡ so_far (piece_of l.plan) l.j) × (all l.j (piece_fits l.plan.cores l.plan.count (task_of l.plan) (piece_of l.plan) l.plan.placed) ≡ true)
