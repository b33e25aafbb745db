-- The plan shape as document 01 says it, over tasks and pieces: n pieces on m cores, of `count` tasks. A kind is whole or share by its type.
use Rattle.std.specs.Prelude.{◌≡◌, ◌⊎◌, ℕ, ◌≤◌, ◌<◌}
use Rattle.tasks.specs.declared.Task.{Task}
use Rattle.plans.specs.Pieces.{task_of, piece_of, costs}
use Rattle.plans.specs.declared.Kind.TheVariants.{Whole, Share}
use Rattle.plans.specs.declared.Piece.{Piece}
use Rattle.plans.specs.declared.Plan.{Plan}

-- piece j, of n, is one of task i's
abbrev pub Of : (ℕ → Piece) → ℕ → ℕ → ℕ → Type 0
Of pc n i j = (j < n) × ((pc j).task.0 ≡ i)

-- task i has at least one piece
pub record HasPiece (pc : ℕ → Piece) (n i : ℕ) : Type 0 where
  pub place : ℕ
  pub own : Of pc n i place

module _ (ts : ℕ → Task) (pc : ℕ → Piece) (n i : ℕ) where
  -- task i has exactly one piece, whole, of cost c
  pub record OneWhole : Type 0 where
    pub place : ℕ
    pub own : Of pc n i place
    pub alone : (j : ℕ) → Of pc n i j → j ≡ place
    pub kind : (pc place).kind ≡ Whole
    pub cost : (pc place).cost ≡ (ts i).cost

  -- task i has shares on strictly rising cores, each of cost at least 1, that add up to c
  pub record OnlyShares : Type 0 where
    pub kinds : (j : ℕ) → Of pc n i j → (pc j).kind ≡ Share
    pub rising : (j k : ℕ) → j < k → Of pc n i j → Of pc n i k → (pc j).core.0 < (pc k).core.0
    pub least : (j : ℕ) → Of pc n i j → 1 ≤ (pc j).cost
    pub total : costs pc i n ≡ (ts i).cost

-- Pieces stand in rising task order and each task has at least one. Tasks are below `count`, cores below m, and there are 1 to 128 pieces.
-- Either a task has exactly one whole piece, of cost c, or it has shares.
pub record InWords (m count : ℕ) (ts : ℕ → Task) (pc : ℕ → Piece) (n : ℕ) : Type 0 where
  pub order : (j k : ℕ) → j ≤ k → k < n → (pc j).task.0 ≤ (pc k).task.0
  pub has : (i : ℕ) → i < count → HasPiece pc n i
  pub tasks : (j : ℕ) → j < n → (pc j).task.0 < count
  pub cores : (j : ℕ) → j < n → (pc j).core.0 < m
  pub least : 1 ≤ n
  pub most : n ≤ 128
  pub each : (i : ℕ) → i < count → OneWhole ts pc n i ⊎ OnlyShares ts pc n i

-- the plan has the shape
abbrev pub HasShape : Plan → Type 0
HasShape p = InWords p.cores p.count (task_of p) (piece_of p) p.placed
