-- Table and plan files: fields in a row; the first bad field decides, no task comes after the fields, and the shape comes last.
use Rattle.std.specs.Prelude.{Bool, true, false, not, ◌&&◌, ◌||◌, cond, List, [], ◌∷◌, ◌++◌, ℕ, zero, suc, ◌+◌, ◌-◌, ◌*◌, leb, ltb, eqb, length, get_or, take, drop, replicate, Result, Ok, Err}
use Rattle.tasks.specs.Places.{place_at}
use Rattle.tasks.specs.Tables.{no_task, task_no, core_no, cores_fit, values_fit, and_then}
use Rattle.tasks.specs.Answers.{Answer, Accepted, Refused}
use Rattle.tasks.specs.declared.Refusal.{Refusal}
use Rattle.tasks.specs.declared.Refusal.TheVariants.{CutShort, WrongTag, WrongLength, CoresAt, ValuesAt, TasksAt, NoPlanShape}
use Rattle.tasks.specs.declared.Table.{Table}
use Rattle.tasks.specs.declared.Task.{Task}
use Rattle.plans.specs.Pieces.{no_piece, task_of, piece_of}
use Rattle.plans.specs.Shape.{shape}
use Rattle.plans.specs.declared.Kind.{Kind}
use Rattle.plans.specs.declared.Kind.TheVariants.{Whole, Share}
use Rattle.plans.specs.declared.Piece.{Piece}
use Rattle.plans.specs.declared.Plan.{Plan}
use Rattle.files.specs.declared.Default.{Default}
use Rattle.files.specs.declared.Default.TheVariants.{Four, Eight}

-- ---- fields in a row: tag (one byte), length (two bytes), body; all numbers are high byte first

-- the number of two bytes from i on
abbrev pub number2 : List ℕ → ℕ → ℕ
number2 s i = get_or s i 0 * 256 + get_or s (i + 1) 0

-- the number of four bytes from i on
abbrev pub number4 : List ℕ → ℕ → ℕ
number4 s i = number2 s i * 65536 + number2 s (i + 2)

-- how long the field at the front is to be: its header, and as many bytes as that says
abbrev pub field_length : List ℕ → ℕ
field_length s = 3 + number2 s 1

-- at most n fields, cut from the front; the file may end inside the last
unfoldable pub cut : ℕ → List ℕ → List (List ℕ)
cut zero s = []
cut (suc n) [] = []
cut (suc n) (b ∷ bs) = take (field_length (b ∷ bs)) (b ∷ bs) ∷ cut n (drop (field_length (b ∷ bs)) (b ∷ bs))

-- the fields of a file: no more than it has bytes
abbrev pub fields_of : List ℕ → List (List ℕ)
fields_of s = cut (length s) s

-- a field's first byte
abbrev pub tag_of : List ℕ → ℕ
tag_of f = get_or f 0 0

-- the length that belongs to a tag
abbrev pub length_for : ℕ → ℕ
length_for g = cond (eqb g 1) 1 (cond (eqb g 2) 12 7)

-- if the core count is absent it is the default that is stated, 4 or 8
abbrev pub default_cores : Default → ℕ
default_cores Four = 4
default_cores Eight = 8

-- tag 2: a task; c, d, p of four bytes each
abbrev pub task_of_field : List ℕ → Task
task_of_field f = record { cost = number4 f 3; deadline = number4 f 7; period = number4 f 11 }

-- kind: 0 whole, 1 share
abbrev pub kind_of : ℕ → Kind
kind_of b = cond (eqb b 1) Share Whole

-- tag 3: a piece; task, core, kind, cost of four bytes
abbrev pub piece_of_field : List ℕ → Piece
piece_of_field f = record { task = task_no (get_or f 3 0); core = core_no (get_or f 4 0); kind = kind_of (get_or f 5 0); cost = number4 f 6 }

-- ---- a bad field

-- what matters of the fields before: whether there is none, whether a piece has come, how many tasks have come
pub record Before : Type 0 where
  pub none : Bool
  pub piece : Bool
  pub tasks : ℕ

-- before the first field
abbrev pub start : Before
start = record { none = true; piece = false; tasks = 0 }

-- behind one field more
abbrev pub behind : Before → List ℕ → Before
behind b f = record { none = false; piece = b.piece || eqb (tag_of f) 3; tasks = cond (eqb (tag_of f) 2) (b.tasks + 1) b.tasks }

-- tag 1 only as the first field; tag 2 before all pieces; tag 3 only in plan files (o)
unfoldable pub in_place : Bool → Before → List ℕ → Bool
in_place o b f =
    cond (eqb (tag_of f) 1) b.none
    (cond (eqb (tag_of f) 2) (not b.piece)
    (cond (eqb (tag_of f) 3) o false))

-- values: core count 1 to 16 (4), and 1 ≤ c ≤ d ≤ p ≤ 1,000,000 (5)
unfoldable pub values_fault : List ℕ → ℕ
values_fault f =
    cond (eqb (tag_of f) 1) (cond (cores_fit (get_or f 3 0)) 0 4)
    (cond (eqb (tag_of f) 2) (cond (values_fit (task_of_field f)) 0 5) 0)

-- within a field: header whole (1), tag (2), 65th task (6), length (3), body whole (1), values (4 or 5); 0 says that the field is good
unfoldable pub fault : Bool → Before → List ℕ → ℕ
fault o b f =
    cond (ltb (length f) 3) 1
    (cond (not (in_place o b f)) 2
    (cond (eqb (tag_of f) 2 && leb 64 b.tasks) 6
    (cond (not (eqb (number2 f 1) (length_for (tag_of f)))) 3
    (cond (ltb (length f) (3 + length_for (tag_of f))) 1
    (values_fault f)))))

-- the refusal of this number, which tells this place
unfoldable pub refusal : ℕ → ℕ → Refusal
refusal x at =
    cond (eqb x 1) (CutShort (place_at at))
    (cond (eqb x 2) (WrongTag (place_at at))
    (cond (eqb x 3) (WrongLength (place_at at))
    (cond (eqb x 4) (CoresAt (place_at at))
    (cond (eqb x 5) (ValuesAt (place_at at)) (TasksAt (place_at at))))))

-- the first bad field decides, and its refusal tells its place k
unfoldable pub judged : Bool → Before → ℕ → List (List ℕ) → Answer
judged o b k [] = Accepted
judged o b k (f ∷ fs) = cond (eqb (fault o b f) 0) (judged o (behind b f) (k + length f) fs) (Refused (refusal (fault o b f) k))

-- ---- what the fields name

-- the tasks, in their order
unfoldable pub tasks_in : List (List ℕ) → List Task
tasks_in [] = []
tasks_in (f ∷ fs) = cond (eqb (tag_of f) 2) (task_of_field f ∷ tasks_in fs) (tasks_in fs)

-- the pieces, in their order
unfoldable pub pieces_in : List (List ℕ) → List Piece
pieces_in [] = []
pieces_in (f ∷ fs) = cond (eqb (tag_of f) 3) (piece_of_field f ∷ pieces_in fs) (pieces_in fs)

-- each piece's kind is 0 or 1
unfoldable pub kinds_fit : List (List ℕ) → Bool
kinds_fit [] = true
kinds_fit (f ∷ fs) = cond (eqb (tag_of f) 3) (ltb (get_or f 5 0) 2) true && kinds_fit fs

-- the core count: of the first field if its tag is 1; if absent, the stated default
abbrev pub cores_in : Default → List (List ℕ) → ℕ
cores_in d [] = default_cores d
cores_in d (f ∷ fs) = cond (eqb (tag_of f) 1) (get_or f 3 0) (default_cores d)

-- the end of the tasks of fields that begin at k: the place of the first piece, or the end of the file
unfoldable pub tasks_end : ℕ → List (List ℕ) → ℕ
tasks_end k [] = k
tasks_end k (f ∷ fs) = cond (eqb (tag_of f) 3) k (tasks_end (k + length f) fs)

-- a record's list of `size` entries: those of xs, and past them `empty`
unfoldable pub filled_to : {A : Type 0} → ℕ → A → List A → List A
filled_to size empty xs = xs ++ replicate (size - length xs) empty

-- the record of so many cores, these tasks and these pieces
abbrev pub record_of : ℕ → List Task → List Piece → Plan
record_of m ts ps = record { cores = m; count = length ts; tasks = filled_to 64 no_task ts; placed = length ps; pieces = filled_to 128 no_piece ps }

-- the record that the fields name
abbrev pub record_in : Default → List (List ℕ) → Plan
record_in d fs = record_of (cores_in d fs) (tasks_in fs) (pieces_in fs)

-- ---- a file

-- no task comes after the fields: 6, at the end of the tasks
abbrev pub some_task : List (List ℕ) → Answer
some_task fs = cond (eqb (length (tasks_in fs)) 0) (Refused (TasksAt (place_at (tasks_end 0 fs)))) Accepted

-- the fields one after another, then whether there is a task
abbrev pub fields_good : Bool → List (List ℕ) → Answer
fields_good o fs = and_then (judged o start 0 fs) (some_task fs)

-- the plan shape, of which kinds 0 or 1 and at most 128 pieces are a part
abbrev pub shape_fits : List (List ℕ) → Plan → Bool
shape_fits fs p = kinds_fit fs && shape p.cores p.count (task_of p) (piece_of p) p.placed

-- 8 comes last
abbrev pub shape_good : List (List ℕ) → Plan → Answer
shape_good fs p = cond (shape_fits fs p) Accepted (Refused NoPlanShape)

-- all zeros, but for the core count
abbrev pub empty_plan : ℕ → Plan
empty_plan m = record { cores = m; count = 0; tasks = replicate 64 no_task; placed = 0; pieces = replicate 128 no_piece }

-- what a file so answered gives: its record, or the refusal
abbrev pub answered : {A : Type 0} → Answer → A → Result A Refusal
answered Accepted x = Ok x
answered (Refused r) x = Err r

-- and its answer alone
abbrev pub answer_of : {A : Type 0} → Result A Refusal → Answer
answer_of (Ok x) = Accepted
answer_of (Err r) = Refused r

-- the table of a record
abbrev pub table_of : Plan → Table
table_of p = record { cores = p.cores; count = p.count; tasks = p.tasks }

-- what a table file gives
unfoldable pub table_said : Default → List ℕ → Result Table Refusal
table_said d s = answered (fields_good false (fields_of s)) (table_of (record_in d (fields_of s)))

-- what a plan file gives
unfoldable pub plan_said : Default → List ℕ → Result Plan Refusal
plan_said d s = answered (and_then (fields_good true (fields_of s)) (shape_good (fields_of s) (record_in d (fields_of s)))) (record_in d (fields_of s))
