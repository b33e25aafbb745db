-- Reading: a file is read field after field from its start, and where it ends it is answered and its record is given.
use Rattle.std.specs.Prelude.{Bool, false, not, ◌||◌, cond, ℕ, ltb, eqb, Result}
use Rattle.tasks.specs.Below.{padded}
use Rattle.tasks.specs.Places.{place_at}
use Rattle.tasks.specs.Tables.{no_task, checked_tasks, and_then}
use Rattle.tasks.specs.Answers.{Answer, Accepted, Refused}
use Rattle.tasks.specs.declared.Refusal.{Refusal}
use Rattle.tasks.specs.declared.Table.{Table}
use Rattle.tasks.specs.declared.Refusal.TheVariants.{WrongTag, NoPlanShape}
use Rattle.plans.specs.Pieces.{no_piece, task_of, piece_of}
use Rattle.plans.specs.Shape.{checked_plan}
use Rattle.plans.specs.declared.Plan.{Plan}
use Rattle.files.specs.Grammar.{default_cores, refusal, empty_plan, answered, table_of}
use Rattle.files.specs.Fields.{field_at, refused_field}
use Rattle.files.specs.declared.Default.{Default}
use Rattle.files.specs.declared.Field.{Field}
use Rattle.files.specs.declared.Reader.{Reader}

-- ---- the start

-- a table's reader (false) or a plan's (true), with nothing read: until a core count is named there are as many cores as the default says
abbrev pub begun : Default → Bool → Reader
begun d o = record { field = field_at o 0 0 false; plan = empty_plan (default_cores d) }

-- ---- the end

-- the field, moved to this place
abbrev pub moved_to : Field → ℕ → Field
moved_to f p = record { pieces = f.pieces; bad = f.bad; place = p; end = f.end; misshapen = f.misshapen; count = f.count; bytes = f.bytes }

-- after the fields, n tasks having been read: the file ends inside a field (1), no task (6, place: end of tasks)
unfoldable pub ended : Field → ℕ → Field
ended f n =
    cond (not (eqb f.bad 0)) f
    (cond (ltb 0 f.count) (refused_field f 1)
    (cond (eqb n 0) (refused_field (moved_to f f.end) 6) f))

-- the first bad field decides, and its refusal tells its place
abbrev pub fields_answer : Field → Answer
fields_answer f = cond (eqb f.bad 0) Accepted (Refused (refusal f.bad f.place))

-- what the fields are answered with where the file ends, n tasks having been read
abbrev pub ended_after : Field → ℕ → Answer
ended_after f n = fields_answer (ended f n)

-- pieces stand only in plan files: a plan's reader, or one with pieces in it, is no table's and gets 2 at the end of the tasks; then what was read is judged as a record
unfoldable pub table_ended : Field → Plan → Answer
table_ended f p = and_then (ended_after f p.count) (cond (f.pieces || ltb 0 p.placed) (Refused (WrongTag (place_at f.end))) (checked_tasks p.cores p.count (task_of p)))

-- 8 comes last: what was read is judged as a record, and of good fields only the shape is left to refuse
unfoldable pub plan_ended : Field → Plan → Answer
plan_ended f p = and_then (ended_after f p.count) (cond f.misshapen (Refused NoPlanShape) (checked_plan p))

-- in every record we make the entries past its counts are 0
abbrev pub clean_plan : Plan → Plan
clean_plan p = record { cores = p.cores; count = p.count; tasks = padded 64 p.count no_task (task_of p); placed = p.placed; pieces = padded 128 p.placed no_piece (piece_of p) }

-- a table file that ends here
unfoldable pub table_closed : Reader → Result Table Refusal
table_closed r = answered (table_ended r.field r.plan) (table_of (clean_plan r.plan))

-- a plan file that ends here
unfoldable pub plan_closed : Reader → Result Plan Refusal
plan_closed r = answered (plan_ended r.field r.plan) (clean_plan r.plan)
