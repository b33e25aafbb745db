-- Laying out a table: all cores begin open and empty, and tasks are taken in table order.
use Rattle.std.specs.Prelude.{false, cond, ℕ, zero, suc, replicate, Option, Some, None, Result, Ok, Err}
use Rattle.tasks.specs.Below.{any, first, padded}
use Rattle.tasks.specs.Tables.{no_task, task_no, checked_table}
use Rattle.tasks.specs.Tables as table
use Rattle.tasks.specs.Answers.{Answer, Accepted, Refused}
use Rattle.tasks.specs.declared.Refusal.{Refusal}
use Rattle.tasks.specs.declared.Refusal.TheVariants.{NotPlaced}
use Rattle.tasks.specs.declared.Table.{Table}
use Rattle.plans.specs.Pieces.{no_piece, task_of}
use Rattle.plans.specs.declared.Plan.{Plan}
use Rattle.planner.specs.Shared.{share_from}
use Rattle.planner.specs.Whole.{put, whole_piece, takes_whole}
use Rattle.planner.specs.declared.Draft.{Draft}

-- the table's tasks, no piece, all cores open
unfoldable pub start : Table → Draft
start t = record {
  plan = record { cores = t.cores; count = t.count; tasks = padded 64 t.count no_task (table.task_of t); placed = 0; pieces = replicate 128 no_piece };
  closed = replicate 16 false;
}

-- task i whole on the lowest core that takes it, otherwise shared
unfoldable pub place : Draft → ℕ → Option Draft
place d i =
    cond (any d.plan.cores (takes_whole d i))
    (Some (record { plan = put (whole_piece d.plan i (first d.plan.cores (takes_whole d i))) d.plan; closed = d.closed }))
    (share_from d i (task_of d.plan i).cost 0 d.plan.cores)

-- the first tasks laid out, or the first task that found no place
pub data Laying : Type 0 where
  laid : Draft → Laying
  stuck : ℕ → Laying

-- task i found a place, or the table is stuck at it
abbrev pub or_stuck : ℕ → Option Draft → Laying
or_stuck i None = stuck i
or_stuck i (Some d) = laid d

abbrev pub then_place : ℕ → Laying → Laying
then_place i (stuck k) = stuck k
then_place i (laid d) = or_stuck i (place d i)

unfoldable pub lay_first : Draft → ℕ → Laying
lay_first d zero = laid d
lay_first d (suc i) = then_place i (lay_first d i)

-- a refusal has no plan
abbrev pub refused : Refusal → Result Plan Refusal
refused r = Err r

-- if the cores run out, the table is refused, naming this task; otherwise the plan
abbrev pub outcome : Laying → Result Plan Refusal
outcome (laid d) = Ok d.plan
outcome (stuck i) = refused (NotPlaced (task_no i))

-- a bad table gets its own refusal
abbrev pub if_good : Answer → Result Plan Refusal → Result Plan Refusal
if_good (Refused r) p = refused r
if_good Accepted p = p

unfoldable pub planned : Table → Result Plan Refusal
planned t = if_good (checked_table t) (outcome (lay_first (start t) t.count))

-- the answer without the plan
abbrev pub answered : Result Plan Refusal → Answer
answered (Ok p) = Accepted
answered (Err r) = Refused r
