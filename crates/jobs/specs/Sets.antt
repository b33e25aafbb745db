-- Sets of tasks.
use Rattle.std.specs.Prelude.{Bool, ◌≡◌, ℕ, min, eqb, get_or}
use Rattle.tasks.specs.Below.{any}
use Rattle.tasks.specs.Tables.{task_no}
use Rattle.jobs.specs.declared.Tasks.{Tasks}

-- is the task numbered t in the set? A count above 64 reads as 64.
unfoldable pub member : Tasks → ℕ → Bool
member u t = any (min u.count 64) (λ k. eqb (get_or u.members k (task_no 0)).0 t)

-- two sets are the same if they have the same members
abbrev pub SameSet : Tasks → Tasks → Type 0
SameSet u v = (t : ℕ) → member u t ≡ member v t
