-- The planner's bound, asked from outside.
use Rattle.std.specs.Prelude.{cond, ℕ, ltb, Result, Ok, Err}
use Rattle.tasks.specs.Answers.{Answer, Accepted, Refused}
use Rattle.tasks.specs.declared.Refusal.{Refusal}
use Rattle.tasks.specs.declared.Refusal.TheVariants.{NoPlanShape}
use Rattle.bounds.specs.Bound.{local_deadline, bound}
use Rattle.plans.specs.Margins.{margin}
use Rattle.plans.specs.Pieces.{task_of, piece_of}
use Rattle.plans.specs.Shape.{checked_plan}
use Rattle.bounds.specs.declared.Bounding.{Bounding}
use Rattle.plans.specs.declared.Plan.{Plan}

-- a piece's bound and, with its local deadline D, its margin
abbrev pub known : ℕ → ℕ → Bounding
known D e = record { bound = e; margin = margin D e }

-- an answer's refusal, or what is known
abbrev pub unless_refused : Answer → Result Bounding Refusal → Result Bounding Refusal
unless_refused (Refused r) b = Err r
unless_refused Accepted b = b

-- a plan without a good table or without the shape gets its refusal; a piece past the list is refusal 8
unfoldable pub bound_asked : Plan → ℕ → Result Bounding Refusal
bound_asked p q =
    unless_refused (checked_plan p) (cond (ltb q p.placed) (Ok (known (local_deadline (task_of p) (piece_of p) q) (bound (task_of p) (piece_of p) p.placed q))) (Err NoPlanShape))
