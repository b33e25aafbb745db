-- Writing: the answer and the lent buffer after it. Bytes past the length stay as they were, and on a refusal all of them.
use Rattle.std.specs.Prelude.{Result, Ok, Err, cond, List, ◌++◌, ℕ, leb, length, take, drop}
use Rattle.tasks.specs.Tables.{checked_table}
use Rattle.tasks.specs.Answers.{Answer, Accepted, Refused}
use Rattle.tasks.specs.declared.Refusal.{Refusal}
use Rattle.tasks.specs.declared.Refusal.TheVariants.{BufferShort}
use Rattle.tasks.specs.declared.Table.{Table}
use Rattle.plans.specs.Shape.{checked_plan}
use Rattle.plans.specs.declared.Plan.{Plan}
use Rattle.writing.specs.Fields.{table_bytes, plan_bytes}

-- a buffer with fields in its middle, from `start` to `end`
abbrev pub after : List ℕ → ℕ → ℕ → List ℕ → List ℕ
after buffer start end fields = (take start buffer ++ fields) ++ drop end buffer

-- for a record the order is 4, 6, 5, 8, then 13, which tells the length needed
abbrev pub answered : Answer → List ℕ → List ℕ → Result ℕ Refusal
answered (Refused x) file buffer = Err x
answered Accepted file buffer = cond (leb (length file) (length buffer)) (Ok (length file)) (Err (BufferShort (length file)))

-- the buffer after it
abbrev pub filled : Answer → List ℕ → List ℕ → List ℕ
filled (Refused x) file buffer = buffer
filled Accepted file buffer = cond (leb (length file) (length buffer)) (file ++ drop (length file) buffer) buffer

-- the answer for a table, and the buffer after it
unfoldable pub table_written : Table → List ℕ → Result ℕ Refusal
table_written t buffer = answered (checked_table t) (table_bytes t) buffer

unfoldable pub table_filled : Table → List ℕ → List ℕ
table_filled t buffer = filled (checked_table t) (table_bytes t) buffer

-- the answer for a plan, and the buffer after it
unfoldable pub plan_written : Plan → List ℕ → Result ℕ Refusal
plan_written p buffer = answered (checked_plan p) (plan_bytes p) buffer

unfoldable pub plan_filled : Plan → List ℕ → List ℕ
plan_filled p buffer = filled (checked_plan p) (plan_bytes p) buffer
