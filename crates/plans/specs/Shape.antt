-- The plan shape, and which refusal a plan record gets.
use Rattle.std.specs.Prelude.{Bool, true, false, not, ◌&&◌, ◌||◌, cond, ℕ, zero, suc, ◌+◌, ◌-◌, leb, ltb, eqb}
use Rattle.tasks.specs.Below.{all}
use Rattle.tasks.specs.Tables.{checked_tasks, and_then}
use Rattle.tasks.specs.Answers.{Answer, Accepted, Refused}
use Rattle.tasks.specs.declared.Refusal.TheVariants.{NoPlanShape}
use Rattle.tasks.specs.declared.Task.{Task}
use Rattle.plans.specs.Pieces.{task_of, piece_of, costs}
use Rattle.plans.specs.declared.Kind.{Kind}
use Rattle.plans.specs.declared.Kind.TheVariants.{Whole, Share}
use Rattle.plans.specs.declared.Piece.{Piece}
use Rattle.plans.specs.declared.Plan.{Plan}

abbrev pub is_share : Kind → Bool
is_share Whole = false
is_share Share = true

abbrev pub same_task : Piece → Piece → Bool
same_task a b = eqb a.task.0 b.task.0

-- b may stand right after a: it is the next task's, or a further share of the same task on a higher core
unfoldable pub follows : Piece → Piece → Bool
follows a b =
    eqb b.task.0 (a.task.0 + 1)
    || (same_task a b && is_share a.kind && is_share b.kind && ltb a.core.0 b.core.0)

-- pieces stand in rising task order and each task has at least one: the first is task 0's, and each other follows the one before it
unfoldable pub in_order : (ℕ → Piece) → ℕ → Bool
in_order pc zero = eqb (pc 0).task.0 0
in_order pc (suc j) = follows (pc j) (pc (suc j))

-- is piece j, of n, its task's last?
unfoldable pub is_last : (ℕ → Piece) → ℕ → ℕ → Bool
is_last pc n j = not (ltb (suc j) n && same_task (pc j) (pc (suc j)))

-- tasks are below `count`, cores below m, each cost is at least 1, and a task's costs add up to its c
unfoldable pub piece_fits : (m count : ℕ) → (ℕ → Task) → (ℕ → Piece) → ℕ → ℕ → Bool
piece_fits m count ts pc n j =
    ltb (pc j).task.0 count && ltb (pc j).core.0 m && leb 1 (pc j).cost && in_order pc j
    && (not (is_last pc n j) || eqb (costs pc (pc j).task.0 (suc j)) (ts (pc j).task.0).cost)

-- the shape of n pieces on m cores, of `count` tasks: at most 128, every piece fits, and the last is the last task's
unfoldable pub shape : (m count : ℕ) → (ℕ → Task) → (ℕ → Piece) → ℕ → Bool
shape m count ts pc n = leb 1 n && leb n 128 && all n (piece_fits m count ts pc n) && eqb ((pc (n - 1)).task.0 + 1) count

-- for a record the order is 4, 6, 5, then 8
unfoldable pub checked_plan : Plan → Answer
checked_plan p =
    and_then (checked_tasks p.cores p.count (task_of p))
    (cond (shape p.cores p.count (task_of p) (piece_of p) p.placed) Accepted (Refused NoPlanShape))
