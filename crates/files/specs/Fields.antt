-- Fields as a reader takes them: byte after byte, each field judged as its bytes come in, and the first bad field decides.
-- A file that comes in parts is read as the whole is: `read` goes on from any reader.
use Rattle.std.specs.Prelude.{Bool, true, false, not, ◌&&◌, cond, List, [], ◌∷◌, ℕ, ◌+◌, leb, ltb, eqb, get_or, set, replicate, Option, Some, None, ◌≡◌}
use Rattle.tasks.specs.Places.{further}
use Rattle.tasks.specs.declared.Task.{Task}
use Rattle.plans.specs.declared.Piece.{Piece}
use Rattle.plans.specs.declared.Plan.{Plan}
use Rattle.files.specs.Grammar.{number2, tag_of, length_for, task_of_field, piece_of_field, values_fault}
use Rattle.files.specs.declared.Field.{Field}
use Rattle.files.specs.declared.Tag.{Tag}
use Rattle.files.specs.declared.Tag.TheVariants as names
use Rattle.files.specs.declared.Reader.{Reader}

-- ---- the field being read

-- the first byte
abbrev pub tag : Field → ℕ
tag f = tag_of f.bytes

-- the tags
abbrev pub tag_no : Tag → ℕ
tag_no names.Cores = 1
tag_no names.Task = 2
tag_no names.Piece = 3

-- this number's tag, or none where it is not known
abbrev pub IsTag : Option Tag → ℕ → Type 0
IsTag (Some t) g = g ≡ tag_no t
IsTag None g = (g ≡ 1 → ⊥) × (g ≡ 2 → ⊥) × (g ≡ 3 → ⊥)

-- a core count only as the first field; a task only before any piece; a piece only in plan files
unfoldable pub tag_fits : Field → Bool
tag_fits f =
    cond (eqb (tag f) 1) (eqb f.place 0)
    (cond (eqb (tag f) 2) (leb f.place f.end)
    (cond (eqb (tag f) 3) f.pieces false))

-- the task of a field with tag 2
abbrev pub task_in : Field → Task
task_in f = task_of_field f.bytes

-- the piece of a field with tag 3
abbrev pub piece_in : Field → Piece
piece_in f = piece_of_field f.bytes

-- what a field is refused with is told by the refusal's number; 0 says that the field is good

-- values: 4 or 5
abbrev pub values : Field → ℕ
values f = values_fault f.bytes

-- within a field, n tasks having been read: header whole (1), tag (2), 65th task (6), length (3), body whole (1), values
unfoldable pub verdict : Field → ℕ → ℕ
verdict f n =
    cond (ltb f.count 3) 1
    (cond (not (tag_fits f)) 2
    (cond (eqb (tag f) 2 && leb 64 n) 6
    (cond (not (eqb (number2 f.bytes 1) (length_for (tag f)))) 3
    (cond (ltb f.count (3 + length_for (tag f))) 1
    (values f)))))

-- one more byte of the field
unfoldable pub hold : Field → ℕ → Field
hold f b = cond (ltb f.count 15)
    (record { pieces = f.pieces; bad = f.bad; place = f.place; end = f.end; misshapen = f.misshapen; count = f.count + 1; bytes = set f.bytes f.count b })
    f

-- ---- what follows a field

-- a field at a place, of which nothing was read yet
abbrev pub field_at : Bool → ℕ → ℕ → Bool → Field
field_at o p e w = record { pieces = o; bad = 0; place = p; end = e; misshapen = w; count = 0; bytes = replicate 15 0 }

-- a piece with a kind of 0 or 1 that is no 129th
unfoldable pub piece_taken : Field → ℕ → Bool
piece_taken f placed = ltb (get_or f.bytes 5 0) 2 && ltb placed 128

-- the next field, behind a good one, `placed` pieces having been read: until a piece was read the tasks end at it
unfoldable pub next_field : Field → ℕ → Field
next_field f placed =
    let p : ℕ = further f.place f.count in
    cond (eqb (tag f) 3) (field_at f.pieces p f.end (cond (piece_taken f placed) f.misshapen true)) (field_at f.pieces p p f.misshapen)

-- with this core count
abbrev pub with_cores : Plan → ℕ → Plan
with_cores p m = record { cores = m; count = p.count; tasks = p.tasks; placed = p.placed; pieces = p.pieces }

-- with one task more
abbrev pub with_task : Plan → Task → Plan
with_task p t = record { cores = p.cores; count = p.count + 1; tasks = set p.tasks p.count t; placed = p.placed; pieces = p.pieces }

-- with one piece more
abbrev pub with_piece : Plan → Piece → Plan
with_piece p z = record { cores = p.cores; count = p.count; tasks = p.tasks; placed = p.placed + 1; pieces = set p.pieces p.placed z }

-- what is read so far, with a good field added
unfoldable pub added : Field → Plan → Plan
added f p =
    cond (eqb (tag f) 3) (cond (piece_taken f p.placed) (with_piece p (piece_in f)) p)
    (cond (eqb (tag f) 1) (with_cores p (get_or f.bytes 3 0))
    (with_task p (task_in f)))

-- ---- a file

-- a good field, taken
abbrev pub taken : Field → Plan → Reader
taken f p = record { field = next_field f p.placed; plan = added f p }

-- the field, refused with this number
abbrev pub refused_field : Field → ℕ → Field
refused_field f x = record { pieces = f.pieces; bad = x; place = f.place; end = f.end; misshapen = f.misshapen; count = f.count; bytes = f.bytes }

-- what a verdict on the field makes of the reader: a field that is not whole waits for the next byte
abbrev pub settled : ℕ → Field → Plan → Reader
settled v f p = cond (eqb v 0) (taken f p) (cond (eqb v 1) (record { field = f; plan = p }) (record { field = refused_field f v; plan = p }))

-- one byte; after a bad field nothing is read any more
unfoldable pub step : Reader → ℕ → Reader
step r b = cond (eqb r.field.bad 0) (settled (verdict (hold r.field b) r.plan.count) (hold r.field b) r.plan) r

-- byte after byte
unfoldable pub read : Reader → List ℕ → Reader
read r [] = r
read r (b ∷ bs) = read (step r b) bs
