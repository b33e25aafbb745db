-- What is printed of a watched run, byte for byte.
use Rattle.std.specs.Prelude.{List, ◌++◌, ℕ, min, get_or}
use Rattle.tasks.specs.Below.{row}
use Rattle.plans.specs.Pieces.{task_of}
use Rattle.plans.specs.declared.Plan.{Plan}
use Rattle.fullrate.specs.declared.Watched.{Watched}
use Rattle.ticklines.specs.Lines.{totals_text}
use Rattle.texts.specs.Text.{ascii, decimal}

-- `task 4 response 24 deadline 25`
unfoldable pub response_text : ℕ → ℕ → ℕ → List ℕ
response_text i seen d = ascii "task " ++ (decimal i ++ (ascii " response " ++ (decimal seen ++ (ascii " deadline " ++ (decimal d ++ ascii "\n")))))

-- the most bytes that such a line can have, and all of a watched run: the totals and 64 tasks
abbrev pub response_most : ℕ
response_most = 86

abbrev pub watched_most : ℕ
watched_most = 5563

-- the totals, then the longest response seen of each task beside its deadline
unfoldable pub watched_text : Plan → Watched → List ℕ
watched_text p w = totals_text w.state ++ row (min p.count 64) (λ i. response_text i (get_or w.longest i 0) (task_of p i).deadline)
