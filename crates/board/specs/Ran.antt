-- What a step of the record where it stands answers.
use Rattle.dispatch.specs.declared.Ticked.{Ticked}
use Rattle.board.specs.declared.Ran.{Ran}

-- a tick's answer, and what runs on each core in it
abbrev pub ran_of : Ticked → Ran
ran_of t = record { answer = t.answer; runs = t.runs }
