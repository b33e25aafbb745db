-- The lines of ticks and their totals, byte for byte.
use Rattle.std.specs.Prelude.{List, [], ◌++◌, ℕ, zero, suc, min, get_or}
use Rattle.tasks.specs.Below.{row}
use Rattle.jobs.specs.Jobs.{no_run, Runner, Idle, Runs}
use Rattle.dispatch.specs.declared.State.{State}
use Rattle.dispatch.specs.declared.Ticked.{Ticked}
use Rattle.board.specs.Ran.{ran_of}
use Rattle.board.specs.declared.Ran.{Ran}
use Rattle.texts.specs.Telling.{answer_text}
use Rattle.texts.specs.Text.{ascii, decimal}

-- the task on a core, or `-`
abbrev pub runner_text : Runner → List ℕ
runner_text Idle = ascii "-"
runner_text (Runs t) = decimal t.0

-- the space before every core but core 0
abbrev pub gap_text : ℕ → List ℕ
gap_text zero = []
gap_text (suc x) = ascii " "

-- the task on each core, core 0 first, as `0 -`
unfoldable pub runs_text : ℕ → List Runner → List ℕ
runs_text m runs = row (min m 16) (λ x. gap_text x ++ runner_text (get_or runs x no_run)) ++ ascii "\n"

-- the most bytes that a tick's line can have: 16 cores of at most 21, and the line's end
abbrev pub ran_most : ℕ
ran_most = 337

-- what a tick shows: the task on each core, or its refusal
abbrev pub ran_text : ℕ → Ran → List ℕ
ran_text m r = answer_text r.answer (λ _. runs_text m r.runs)

abbrev pub ticked_text : ℕ → Ticked → List ℕ
ticked_text m t = ran_text m (ran_of t)

-- `late 0 preemptions 4`
unfoldable pub totals_text : State → List ℕ
totals_text s = ascii "late " ++ (decimal s.late ++ (ascii " preemptions " ++ (decimal s.preemptions ++ ascii "\n")))

abbrev pub totals_most : ℕ
totals_most = 59
