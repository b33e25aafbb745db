-- A core's limit for shares of a new task.
use Rattle.std.specs.Prelude.{cond, ℕ, zero, suc, ◌-◌, ◌/◌, min, eqb}
use Rattle.bounds.specs.Bound.{local_deadline, bound}
use Rattle.plans.specs.Interference.{periods}
use Rattle.plans.specs.Pieces.{task_of, piece_of}
use Rattle.plans.specs.declared.Plan.{Plan}

-- what piece q allows a new share: floor(margin / ceil(D / p)), p being the new task's.
-- While a table is laid out no piece on an open core has a bound above its D (law `Laid`); a margin below 0 would allow nothing.
unfoldable pub allowance : Plan → ℕ → ℕ → ℕ
allowance w p q =
    let D : ℕ = local_deadline (task_of w) (piece_of w) q in
    (D - bound (task_of w) (piece_of w) w.placed q) / periods p D

-- the least, over the pieces on core x among the first n, of what each allows.
-- No piece allows as much as 1,000,000, the largest cost, which is where the search for the least starts.
unfoldable pub limit_of : Plan → ℕ → ℕ → ℕ → ℕ
limit_of w p x zero = 1000000
limit_of w p x (suc q) = cond (eqb (piece_of w q).core.0 x) (min (limit_of w p x q) (allowance w p q)) (limit_of w p x q)

-- a core's limit is the least over its pieces
abbrev pub limit : Plan → ℕ → ℕ → ℕ
limit w p x = limit_of w p x w.placed
