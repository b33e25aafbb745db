-- Whole: the task goes whole to the lowest open core on which, with it added, every whole piece has a bound no greater than its deadline.
use Rattle.std.specs.Prelude.{Bool, false, not, ◌&&◌, ◌||◌, List, ℕ, ◌+◌, leb, eqb, get_or, set}
use Rattle.tasks.specs.Below.{all}
use Rattle.tasks.specs.Tables.{task_no, core_no}
use Rattle.bounds.specs.Bound.{local_deadline, bound}
use Rattle.plans.specs.Pieces.{task_of, piece_of}
use Rattle.plans.specs.Shape.{is_share}
use Rattle.plans.specs.declared.Kind.TheVariants.{Whole}
use Rattle.plans.specs.declared.Piece.{Piece}
use Rattle.plans.specs.declared.Plan.{Plan}
use Rattle.planner.specs.declared.Draft.{Draft}

-- the plan with one piece more
unfoldable pub put : Piece → Plan → Plan
put z w = record { cores = w.cores; count = w.count; tasks = w.tasks; placed = w.placed + 1; pieces = set w.pieces w.placed z }

-- a plan and its closed cores together
abbrev pub draft : Plan → List Bool → Draft
draft w closed = record { plan = w; closed = closed }

abbrev pub is_closed : List Bool → ℕ → Bool
is_closed closed x = get_or closed x false

abbrev pub whole_piece : Plan → ℕ → ℕ → Piece
whole_piece w i x = record { task = task_no i; core = core_no x; kind = Whole; cost = (task_of w i).cost }

-- piece q, if it is whole and on core x, has a bound no greater than its deadline, which is its local deadline
abbrev pub keeps_bound : Plan → ℕ → ℕ → Bool
keeps_bound v x q =
    not (eqb (piece_of v q).core.0 x) || is_share (piece_of v q).kind
    || leb (bound (task_of v) (piece_of v) v.placed q) (local_deadline (task_of v) (piece_of v) q)

-- core x is open, and with task i added whole every whole piece there keeps its bound
unfoldable pub takes_whole : Draft → ℕ → ℕ → Bool
takes_whole d i x =
    let v : Plan = put (whole_piece d.plan i x) d.plan in
    not (is_closed d.closed x) && all v.placed (keeps_bound v x)
