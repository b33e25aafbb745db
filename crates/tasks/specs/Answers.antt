-- What a call that can refuse answers: that it accepts, or a refusal.
use Rattle.std.specs.Prelude.{Result, Ok, Err}
use Rattle.tasks.specs.declared.Refusal.{Refusal}

abbrev pub Answer : Type 0
Answer = Result (Unit {0}) Refusal

pattern abbrev pub Accepted : Answer
Accepted = Ok tt

pattern abbrev pub Refused : Refusal → Answer
Refused r = Err r
