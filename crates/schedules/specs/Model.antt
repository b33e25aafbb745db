-- A plan as the promise sees it, over any rank, and what a tick does to one task's job.
use Rattle.std.specs.Prelude.{◌≡◌, Bool, ℕ, suc, ◌+◌, ◌≤◌, ◌<◌, min, ltb, eqb}
use Rattle.std.proofs.Math.Bool.{true, false}

-- where a task's job stands: never released, active at an age at a piece after so many ticks run there, or ended at an age
pub data Stage : Type 0 where
  never : Stage
  active : (age piece ran : ℕ) → Stage
  ended : (age : ℕ) → Stage

-- `off j` is the cost of the same task's earlier pieces; `above j q`: j stands on q's core and is ranked above it
pub record Model : Type 0 where
  pub tasks : ℕ
  pub pieces : ℕ
  pub task : ℕ → ℕ
  pub cost : ℕ → ℕ
  pub off : ℕ → ℕ
  pub last : ℕ → Bool
  pub above : ℕ → ℕ → Bool
  pub first : ℕ → ℕ
  pub period : ℕ → ℕ

-- good shape: costs of at least 1 that fit into the period, each task's pieces in a row from its first to its last
pub record Sound (M : Model) : Type 0 where
  pub some : (j : ℕ) → j < M.pieces → 0 < M.cost j
  pub inside : (j : ℕ) → j < M.pieces → M.off j + M.cost j ≤ M.period (M.task j)
  pub next : (j : ℕ) → j < M.pieces → M.last j ≡ false → (suc j < M.pieces) × (M.task (suc j) ≡ M.task j) × (M.off (suc j) ≡ M.off j + M.cost j)
  pub begins : (i : ℕ) → i < M.tasks → (M.first i < M.pieces) × (M.task (M.first i) ≡ i) × (M.off (M.first i) ≡ 0)
  pub owned : (j : ℕ) → j < M.pieces → M.task j < M.tasks
  pub leads : (j : ℕ) → j < M.pieces → M.first (M.task j) ≤ j

-- is the job at piece j?
unfoldable pub at : ℕ → Stage → Bool
at j never = false
at j (active a k r) = eqb k j
at j (ended a) = false

-- rule 1 ends an active job
unfoldable pub finish : Stage → Stage
finish never = never
finish (active a k r) = ended a
finish (ended a) = ended a

module _ (M : Model) where
  -- ages rise by 1, up to the period
  unfoldable pub older : ℕ → ℕ → ℕ
  older i a = min (suc a) (M.period i)

  -- a job that has run: its piece is not used up, or it was the last, or the next one follows
  unfoldable pub onward : (part last : Bool) (age piece ran : ℕ) → Stage
  onward true z a k r = active a k r
  onward false true a k r = ended a
  onward false false a k r = active a (suc k) 0

  -- rule 3 puts a job at its task's first piece
  unfoldable pub release : ℕ → Stage
  release i = active 0 (M.first i) 0

  -- rules 4 to 6 for task i, which runs or not
  unfoldable pub run : ℕ → Bool → Stage → Stage
  unfolding older onward
  run i b never = never
  run i b (ended a) = ended (older i a)
  run i false (active a k r) = active (older i a) k r
  run i true (active a k r) = onward (ltb (suc r) (M.cost k)) (M.last k) (older i a) k (suc r)

  -- a task may be released if it never was, or has ended and is as old as its period
  abbrev pub May : ℕ → Stage → Type 0
  May i never = Unit {0}
  May i (ended a) = M.period i ≤ a
  May i (active a k r) = ⊥
