-- The planner's bound over a list of piece records that the caller lends.
use Rattle.std.specs.Prelude.{List, ℕ, length, Result}
use Rattle.tasks.specs.declared.Refusal.{Refusal}
use Rattle.tasks.specs.declared.Table.{Table}
use Rattle.bounds.specs.Asking.{bound_asked}
use Rattle.bounds.specs.declared.Bounding.{Bounding}
use Rattle.plans.specs.declared.Piece.{Piece}
use Rattle.plans.specs.declared.Plan.{Plan}

-- a table and a lent list as a plan: the list's pieces are the plan's
abbrev pub lent_plan : Table → List Piece → Plan
lent_plan t ys = record { cores = t.cores; count = t.count; tasks = t.tasks; placed = length ys; pieces = ys }

-- 4, 6 or 5 for the table; 8 for a list without the plan shape and for a piece past the list; otherwise bound and margin of piece q
unfoldable pub bound_lent : Table → List Piece → ℕ → Result Bounding Refusal
bound_lent t ys q = bound_asked (lent_plan t ys) q
