-- Shared: otherwise go over the open cores in rising order with need = c at the start.
use Rattle.std.specs.Prelude.{true, ◌||◌, cond, ℕ, zero, suc, ◌+◌, ◌-◌, ltb, eqb, set, Option, Some, None}
use Rattle.tasks.specs.Tables.{task_no, core_no}
use Rattle.plans.specs.Pieces.{task_of}
use Rattle.plans.specs.declared.Kind.TheVariants.{Share}
use Rattle.plans.specs.declared.Piece.{Piece}
use Rattle.planner.specs.Limit.{limit}
use Rattle.planner.specs.Whole.{put, is_closed}
use Rattle.planner.specs.declared.Draft.{Draft}

abbrev pub share_piece : ℕ → ℕ → ℕ → Piece
share_piece i x size = record { task = task_no i; core = core_no x; kind = Share; cost = size }

-- the draft with a share of task i on core x; the core stays open
unfoldable pub give_share : Draft → ℕ → ℕ → ℕ → Draft
give_share d i x size = record { plan = put (share_piece i x size) d.plan; closed = d.closed }

-- the draft with core x closed
unfoldable pub close : Draft → ℕ → Draft
close d x = record { plan = d.plan; closed = set d.closed x true }

-- what is left of task i, `need`, over the f cores from x on.
-- A core that is closed or whose limit is 0 is skipped. If the limit is below need, the task gets a share of that size, the core is closed,
-- and need falls by it. If the limit equals need, the task gets need, the core is closed, the task is placed.
-- If the limit exceeds need, the task gets need, the core stays open, the task is placed. If the cores run out, it is not placed.
unfoldable pub share_from : Draft → ℕ → ℕ → ℕ → ℕ → Option Draft
share_from d i need x zero = None
share_from d i need x (suc f) =
    let most : ℕ = limit d.plan (task_of d.plan i).period x in
    cond (is_closed d.closed x || eqb most 0) (share_from d i need (x + 1) f)
    (cond (ltb most need) (share_from (close (give_share d i x most) x) i (need - most) (x + 1) f)
    (cond (eqb most need) (Some (close (give_share d i x need) x))
    (Some (give_share d i x need))))
