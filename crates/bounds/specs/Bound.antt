-- Local deadline and bound of a piece.
use Rattle.std.specs.Prelude.{cond, ℕ, ◌+◌, ◌-◌}
use Rattle.tasks.specs.Below.{sum}
use Rattle.tasks.specs.declared.Task.{Task}
use Rattle.plans.specs.Interference.{interference}
use Rattle.plans.specs.Pieces.{earlier}
use Rattle.plans.specs.Rank.{above}
use Rattle.plans.specs.declared.Piece.{Piece}

-- D = d less the costs of the same task's earlier pieces
unfoldable pub local_deadline : (ℕ → Task) → (ℕ → Piece) → ℕ → ℕ
local_deadline ts pc q = (ts (pc q).task.0).deadline - earlier pc q

-- the interference in length L of the pieces, of the first n, that are ranked above b on its core
unfoldable pub load : (ℕ → Task) → (ℕ → Piece) → ℕ → Piece → ℕ → ℕ
load ts pc n b L = sum n (λ j. cond (above ts (pc j) b) (interference (pc j).cost (ts (pc j).task.0).period L) 0)

-- bound of a piece: its e plus the interference in length D of every piece ranked above it on its core
unfoldable pub bound : (ℕ → Task) → (ℕ → Piece) → ℕ → ℕ → ℕ
bound ts pc n q = (pc q).cost + load ts pc n (pc q) (local_deadline ts pc q)
