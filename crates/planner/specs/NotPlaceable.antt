-- Refusal 7 in document 01's words: when a task finds no place after the tasks before it.
use Rattle.std.specs.Prelude.{◌≡◌, false, cond, ℕ, ◌<◌}
use Rattle.tasks.specs.Below.{sum}
use Rattle.tasks.specs.Tables as table
use Rattle.tasks.specs.declared.Table.{Table}
use Rattle.bounds.specs.Bound.{bound}
use Rattle.plans.specs.Pieces.{task_of, piece_of}
use Rattle.plans.specs.declared.Kind.TheVariants.{Whole}
use Rattle.plans.specs.declared.Plan.{Plan}
use Rattle.planner.specs.Layout.{start, lay_first, laid}
use Rattle.planner.specs.Limit.{limit}
use Rattle.planner.specs.Whole.{put, is_closed, whole_piece}
use Rattle.planner.specs.declared.Draft.{Draft}

-- a whole piece of plan v on core x has a bound greater than its deadline
pub record Over (v : Plan) (x : ℕ) : Type 0 where
  pub piece : ℕ
  pub below : piece < v.placed
  pub core : (piece_of v piece).core.0 ≡ x
  pub whole : (piece_of v piece).kind ≡ Whole
  pub above : (task_of v (piece_of v piece).task.0).deadline < bound (task_of v) (piece_of v) v.placed piece

-- core x does not take task i whole: with it added, some whole piece there is over
abbrev pub NotWhole : Draft → ℕ → ℕ → Type 0
NotWhole d i x = Over (put (whole_piece d.plan i x) d.plan) x

-- the limit of core x for task i if it is open, otherwise 0
abbrev pub open_limit : Draft → ℕ → ℕ → ℕ
open_limit d i x = cond (is_closed d.closed x) 0 (limit d.plan (task_of d.plan i).period x)

-- the tasks before i are laid out; then no open core takes i whole, and the limits of the open cores add up to less than its c
pub record NotPlaceable (t : Table) (i : ℕ) : Type 0 where
  pub below : i < t.count
  pub before : Draft
  pub lays : lay_first (start t) i ≡ laid before
  pub whole : (x : ℕ) → x < t.cores → is_closed before.closed x ≡ false → NotWhole before i x
  pub short : sum t.cores (open_limit before i) < (table.task_of t i).cost
