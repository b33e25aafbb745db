-- A file that is read whole, with the stated default: a table file, a plan file.
use Rattle.std.specs.Prelude.{Bool, true, false, List, ℕ, Result}
use Rattle.tasks.specs.Answers.{Answer}
use Rattle.tasks.specs.declared.Refusal.{Refusal}
use Rattle.tasks.specs.declared.Table.{Table}
use Rattle.plans.specs.declared.Plan.{Plan}
use Rattle.files.specs.Fields.{read}
use Rattle.files.specs.Grammar.{answer_of}
use Rattle.files.specs.Reading.{begun, table_closed, plan_closed}
use Rattle.files.specs.declared.Default.{Default}

-- a table file
unfoldable pub table_read : Default → List ℕ → Result Table Refusal
table_read d s = table_closed (read (begun d false) s)

-- a plan file
unfoldable pub plan_read : Default → List ℕ → Result Plan Refusal
plan_read d s = plan_closed (read (begun d true) s)

-- the answer to a table file, and to a plan file (true)
abbrev pub answer_to : Default → Bool → List ℕ → Answer
answer_to d false s = answer_of (table_read d s)
answer_to d true s = answer_of (plan_read d s)
