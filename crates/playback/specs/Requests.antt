-- A tick's request as bytes: one byte a (at most 64), a bytes of task numbers (finished), one byte b (at most 64), b bytes of task numbers (released). A byte past the end counts as 0.
use Rattle.std.specs.Prelude.{Result, Ok, Err, cond, ◌||◌, List, ℕ, ◌+◌, ltb, length, get_or}
use Rattle.tasks.specs.Below.{padded}
use Rattle.tasks.specs.Tables.{task_no}
use Rattle.tasks.specs.Answers.{Answer, Accepted, Refused}
use Rattle.tasks.specs.declared.Place.{Place}
use Rattle.tasks.specs.declared.Refusal.{Refusal}
use Rattle.tasks.specs.declared.Refusal.TheVariants.{CutShort, WrongLength}
use Rattle.jobs.specs.declared.Tasks.{Tasks}

-- how many are finished, and how many released
abbrev pub finishes : List ℕ → ℕ
finishes s = get_or s 0 0

abbrev pub releases : List ℕ → ℕ
releases s = get_or s (1 + finishes s) 0

-- the tasks that are counted by the byte at a place, and whose numbers stand after it
unfoldable pub tasks_at : List ℕ → ℕ → Tasks
tasks_at s at = record { members = padded 64 (get_or s at 0) (task_no 0) (λ k. task_no (get_or s (at + 1 + k) 0)); count = get_or s at 0 }

abbrev pub finished_in : List ℕ → Tasks
finished_in s = tasks_at s 0

abbrev pub released_in : List ℕ → Tasks
released_in s = tasks_at s (1 + finishes s)

-- how many bytes the request takes: both counts and what they count
unfoldable pub request_size : List ℕ → ℕ
request_size s = 2 + finishes s + releases s

-- a count above 64 is 3 and a request that the input ends inside is 1, each with the place of its first byte
unfoldable pub request_answer : List ℕ → Place → Answer
request_answer s start =
    cond (ltb 64 (finishes s) || ltb 64 (releases s)) (Refused (WrongLength start))
    (cond (ltb (length s) (request_size s)) (Refused (CutShort start)) Accepted)

-- the size, if the answer accepts
abbrev pub if_good : Answer → ℕ → Result ℕ Refusal
if_good (Refused x) size = Err x
if_good Accepted size = Ok size

-- the refusal of a request, or its size
abbrev pub judged : List ℕ → Place → Result ℕ Refusal
judged s start = if_good (request_answer s start) (request_size s)
