-- Table in force: the machine's own table if it is a good table file, otherwise the shipped one if that is good.
use Rattle.std.specs.Prelude.{cond, ◌&&◌, List, ◌≡◌, ℕ, ◌+◌, ◌-◌, leb, eqb, length, take, drop, get_or, Result, Ok, Err}
use Rattle.std.specs.Borrow.{Bor}
use Rattle.tasks.specs.Answers.{Answer, Accepted, Refused}
use Rattle.tasks.specs.declared.Refusal.{Refusal}
use Rattle.tasks.specs.declared.Table.{Table}
use Rattle.files.specs.Files.{table_read}
use Rattle.files.specs.Grammar.{answer_of}
use Rattle.files.specs.declared.Default.{Default}
use Rattle.force.specs.declared.InForce.{InForce}
use Rattle.force.specs.declared.InForce.TheVariants.{Own, Shipped}

-- which slice is in force, by the answers for the two
abbrev pub choice : Answer → Answer → Result InForce Refusal
choice Accepted shipped = Ok Own
choice (Refused x) Accepted = Ok Shipped
choice (Refused x) (Refused y) = Err y

-- which slice is in force or, if both are bad, the refusal of the shipped one
unfoldable pub in_force : Default → List ℕ → List ℕ → Result InForce Refusal
in_force d own shipped = choice (answer_of (table_read d own)) (answer_of (table_read d shipped))

-- the core count of the table that is in force, by what the two slices give
abbrev pub count_in : Result Table Refusal → Result Table Refusal → Result ℕ Refusal
count_in (Ok t) shipped = Ok t.cores
count_in (Err x) (Ok t) = Ok t.cores
count_in (Err x) (Err y) = Err y

-- the core count of the table in force: the one that it names, otherwise the stated default; if both are bad, the refusal of the shipped one
unfoldable pub cores_in_force : Default → List ℕ → List ℕ → Result ℕ Refusal
cores_in_force d own shipped = count_in (table_read d own) (table_read d shipped)

-- r is the part of s from a to e, itself and no copy: it points at s's byte a
pub record IsPart (r s : Bor (List ℕ)) (a e : ℕ) : Type 0 where
  pub block : r.ref_ptr.0 ≡ s.ref_ptr.0
  pub offset : r.ref_ptr.1 ≡ s.ref_ptr.1 + a
  pub bytes : r.now ≡ take (e - a) (drop a s.now)

-- the place of the first task field of a good table file: after the core count, if that is there
abbrev pub first_task : List ℕ → ℕ
first_task s = cond (leb 4 (length s) && eqb (get_or s 0 0) 1) 4 0

-- r is the part that holds the slice's task fields
abbrev pub TaskFields : Bor (List ℕ) → Bor (List ℕ) → Type 0
TaskFields r s = IsPart r s (first_task s.now) (length s.now)

-- r is the table in force: the task fields of one slice or, if both are bad, an empty part
abbrev pub IsInForce : Result InForce Refusal → Bor (List ℕ) → Bor (List ℕ) → Bor (List ℕ) → Type 0
IsInForce (Ok Own) r own shipped = TaskFields r own
IsInForce (Ok Shipped) r own shipped = TaskFields r shipped
IsInForce (Err x) r own shipped = IsPart r shipped 0 0
