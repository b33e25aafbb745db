-- One tick: the rules in their order, or a refusal.
use Rattle.std.specs.Prelude.{replicate}
use Rattle.tasks.specs.Tables.{and_then}
use Rattle.tasks.specs.Answers.{Answer, Accepted, Refused}
use Rattle.plans.specs.declared.Plan.{Plan}
use Rattle.jobs.specs.Jobs.{no_run}
use Rattle.jobs.specs.declared.Tasks.{Tasks}
use Rattle.dispatch.specs.Advance.{checked, next_state}
use Rattle.dispatch.specs.declared.State.{State}
use Rattle.dispatch.specs.Refusing.{judged_sets}
use Rattle.dispatch.specs.declared.Ticked.{Ticked}

-- when a tick is refused: 4, 6, 5 and 8 for the plan, 9 for the state, then 10, 11 and 12 for the sets
unfoldable pub judged : Plan → State → Tasks → Tasks → Answer
judged p s fs rs = and_then (checked p s) (judged_sets p s fs rs)

-- on a refusal nothing runs and the state is the one given
abbrev pub refused : Answer → State → Ticked
refused answer given = record { answer = answer; runs = replicate 16 no_run; state = given }

-- what a tick answers
abbrev pub answered : Answer → State → State → Ticked
answered (Refused r) given next = refused (Refused r) given
answered Accepted given next = record { answer = Accepted; runs = next.last; state = next }

unfoldable pub tick : Plan → State → Tasks → Tasks → Ticked
tick p s fs rs = answered (judged p s fs rs) s (next_state p fs rs s)
