-- What a refusal's line says, byte for byte.
use Rattle.std.specs.Prelude.{Result, Ok, Err, List, [], ◌++◌, ℕ}
use Rattle.tasks.specs.Refusals.{Told, place, task, given, needed, nothing, number, tells}
use Rattle.tasks.specs.declared.Refusal.{Refusal}
use Rattle.texts.specs.Text.{ascii, decimal}

-- what a refusal tells
unfoldable pub told_text : Told → List ℕ
told_text (place p) = ascii " at " ++ decimal p
told_text (task i) = ascii " task " ++ decimal i
told_text (given n) = ascii " given " ++ decimal n
told_text (needed n) = ascii " needs " ++ decimal n
told_text nothing = []

-- `refused 7 task 3`, `refused 5 at 4`, `refused 8`
unfoldable pub refusal_text : Refusal → List ℕ
refusal_text x = ascii "refused " ++ (decimal (number x) ++ (told_text (tells x) ++ ascii "\n"))

-- the most bytes that a refusal's number and what it tells can have, and a refusal's line
abbrev pub told_most : ℕ
told_most = 47

abbrev pub refusal_most : ℕ
refusal_most = 56

-- a refusal's line, or what is said of what is accepted
abbrev pub answer_text : {A : Type 0} → Result A Refusal → (A → List ℕ) → List ℕ
answer_text (Err x) said = refusal_text x
answer_text (Ok a) said = said a
