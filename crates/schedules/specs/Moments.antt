-- The dispatcher's state as the promise sees it, an accepted tick, and the states that accepted ticks lead to.
use Rattle.std.specs.Prelude.{◌≡◌, Bool, true, false, not, ◌&&◌, cond, ℕ, ◌<◌}
use Rattle.tasks.specs.Below.{any}
use Rattle.schedules.specs.Model.{Stage, never, active, ended, Model, at, finish, release, run, May}

-- where each task's job stands, and whether the task ran in the tick before
pub record Moment : Type 0 where
  pub stage : ℕ → Stage
  pub ran : ℕ → Bool

unfoldable pub fresh : Moment
fresh = record { stage = λ i. never; ran = λ i. false }

module _ (M : Model) where
  -- is a job at a piece that is ranked above k on its core?
  unfoldable pub held : (ℕ → Stage) → ℕ → Bool
  held o k = any M.pieces (λ j. M.above j k && at j (o (M.task j)))

  -- the highest ranked piece on each core runs: an active job runs unless it is held
  unfoldable pub goes_at : (ℕ → Stage) → Stage → Bool
  goes_at o never = false
  goes_at o (ended a) = false
  goes_at o (active a k r) = not (held o k)

  unfoldable pub goes : (ℕ → Stage) → ℕ → Bool
  goes o i = goes_at o (o i)

  unfoldable pub finished : (ℕ → Bool) → (ℕ → Stage) → ℕ → Stage
  finished fs o i = cond (fs i) (finish (o i)) (o i)

  unfoldable pub released : (ℕ → Bool) → (ℕ → Stage) → ℕ → Stage
  released rs o i = cond (rs i) (release M i) (o i)

  unfoldable pub ticked : (ℕ → Stage) → Moment
  ticked o = record { stage = λ i. run M i (goes o i) (o i); ran = goes o }

  -- a tick with the finished and the released tasks
  unfoldable pub tick : (ℕ → Bool) → (ℕ → Bool) → Moment → Moment
  tick fs rs s = ticked (released rs (finished fs s.stage))

  -- the tick is not refused
  pub record Accepted (fs rs : ℕ → Bool) (s : Moment) : Type 0 where
    pub ended : (i : ℕ) → i < M.tasks → fs i ≡ true → s.ran i ≡ true
    pub begun : (i : ℕ) → i < M.tasks → rs i ≡ true → May M i (finished fs s.stage i)

  -- two moments agree on the tasks
  pub record Agree (s t : Moment) : Type 0 where
    pub stages : (i : ℕ) → i < M.tasks → t.stage i ≡ s.stage i
    pub runs : (i : ℕ) → i < M.tasks → t.ran i ≡ s.ran i

  -- an accepted tick leads from s to t
  pub record Step (fs rs : ℕ → Bool) (s t : Moment) : Type 0 where
    pub accepted : Accepted fs rs s
    pub agree : Agree (tick fs rs s) t

  -- the moments that accepted ticks lead to
  pub data Reached : Moment → Type 0 where
    start : {s : Moment} → Agree fresh s → Reached s
    next : (fs rs : ℕ → Bool) {s t : Moment} → Reached s → Step fs rs s t → Reached t
