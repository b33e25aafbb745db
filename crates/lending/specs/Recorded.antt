-- How a lent list is checked: with its table it is a plan record, and that plan is asked for a piece.
use Rattle.std.specs.Prelude.{cond, List, ℕ, length, ltb, get_or}
use Rattle.tasks.specs.Below.{padded}
use Rattle.tasks.specs.Tables.{and_then}
use Rattle.tasks.specs.Answers.{Answer, Accepted, Refused}
use Rattle.tasks.specs.declared.Refusal.TheVariants.{NoPlanShape}
use Rattle.tasks.specs.declared.Table.{Table}
use Rattle.plans.specs.Pieces.{no_piece}
use Rattle.plans.specs.Shape.{checked_plan}
use Rattle.plans.specs.declared.Piece.{Piece}
use Rattle.plans.specs.declared.Plan.{Plan}

-- a table and a lent list as a plan record, which has as many pieces of the list as there is room for
unfoldable pub recorded : Table → List Piece → Plan
recorded t ys = record { cores = t.cores; count = t.count; tasks = t.tasks; placed = length ys; pieces = padded 128 (length ys) no_piece (λ j. get_or ys j no_piece) }

-- the answer on piece q of a plan: the plan's own refusal, or 8 for a piece past the list
unfoldable pub asked_of : Plan → ℕ → Answer
asked_of p q = and_then (checked_plan p) (cond (ltb q p.placed) Accepted (Refused NoPlanShape))
