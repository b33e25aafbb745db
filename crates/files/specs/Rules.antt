-- The rules that a field can break, in their order within a field, and the first bad field of a file.
use Rattle.std.specs.Prelude.{◌≡◌, Bool, true, false, List, [], ◌∷◌, ◌++◌, ◌⊎◌, ℕ, ◌+◌, ◌≤◌, ◌<◌, length, get_or}
use Rattle.tasks.specs.Tables.{cores_fit, values_fit}
use Rattle.tasks.specs.Answers.{Accepted}
use Rattle.files.specs.Grammar.{Before, start, behind, number2, length_for, tag_of, task_of_field, in_place, judged, tasks_in, tasks_end}

-- ---- rules, of a field f behind the fields before (b), in a plan file if o

-- the header is whole, the tag known and in its order
pub record TagGood (o : Bool) (b : Before) (f : List ℕ) : Type 0 where
  pub header : 3 ≤ length f
  pub order : in_place o b f ≡ true

-- besides, it is no 65th task, and its length is right for its tag
pub record HeaderGood (o : Bool) (b : Before) (f : List ℕ) : Type 0 where
  pub tag : TagGood o b f
  pub room : tag_of f ≡ 2 → b.tasks < 64
  pub size : number2 f 1 ≡ length_for (tag_of f)

-- besides, its body is whole
pub record BodyGood (o : Bool) (b : Before) (f : List ℕ) : Type 0 where
  pub header : HeaderGood o b f
  pub whole : 3 + length_for (tag_of f) ≤ length f

-- 1: the file ends inside the header, or inside the body behind a good header
abbrev pub EndsInside : Bool → Before → List ℕ → Type 0
EndsInside o b f = (length f < 3) ⊎ (HeaderGood o b f × (length f < 3 + length_for (tag_of f)))

-- 2: the tag is unknown or out of its order
abbrev pub BadTag : Bool → Before → List ℕ → Type 0
BadTag o b f = (3 ≤ length f) × (in_place o b f ≡ false)

-- 6: a 65th task
abbrev pub TaskPast : Bool → Before → List ℕ → Type 0
TaskPast o b f = TagGood o b f × ((tag_of f ≡ 2) × (64 ≤ b.tasks))

-- 3: the length is wrong for the tag
abbrev pub BadLength : Bool → Before → List ℕ → Type 0
BadLength o b f = TagGood o b f × ((tag_of f ≡ 2 → b.tasks < 64) × (number2 f 1 ≡ length_for (tag_of f) → ⊥))

-- 4: the core count is not 1 to 16
abbrev pub BadCores : Bool → Before → List ℕ → Type 0
BadCores o b f = BodyGood o b f × ((tag_of f ≡ 1) × (cores_fit (get_or f 3 0) ≡ false))

-- 5: c, d, p are out of range
abbrev pub BadValues : Bool → Before → List ℕ → Type 0
BadValues o b f = BodyGood o b f × ((tag_of f ≡ 2) × (values_fit (task_of_field f) ≡ false))

-- ---- the first bad field

-- what matters behind several fields
unfoldable pub behind_all : Before → List (List ℕ) → Before
behind_all b [] = b
behind_all b (f ∷ fs) = behind_all (behind b f) fs

-- fields in a row
unfoldable pub joined : List (List ℕ) → List ℕ
joined [] = []
joined (f ∷ fs) = f ++ joined fs

-- the field at place k is the first bad one of fs, and it breaks this rule
pub record FirstBad (o : Bool) (fs : List (List ℕ)) (Rule : Bool → Before → List ℕ → Type 0) (k : ℕ) : Type 0 where
  pub earlier : List (List ℕ)
  pub field : List ℕ
  pub later : List (List ℕ)
  pub row : fs ≡ earlier ++ (field ∷ later)
  pub good : judged o start 0 earlier ≡ Accepted
  pub place : length (joined earlier) ≡ k
  pub breaks : Rule o (behind_all start earlier) field

-- no field is bad and none is a task, and the tasks end at k
pub record NoTask (o : Bool) (fs : List (List ℕ)) (k : ℕ) : Type 0 where
  pub good : judged o start 0 fs ≡ Accepted
  pub none : tasks_in fs ≡ []
  pub place : tasks_end 0 fs ≡ k
