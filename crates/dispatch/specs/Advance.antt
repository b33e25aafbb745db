-- The rules in their order, and when the plan or the state is refused.
use Rattle.std.specs.Prelude.{cond}
use Rattle.tasks.specs.Tables.{and_then}
use Rattle.tasks.specs.Answers.{Answer, Accepted, Refused}
use Rattle.tasks.specs.declared.Refusal.TheVariants.{NotWellMade}
use Rattle.plans.specs.Shape.{checked_plan}
use Rattle.plans.specs.declared.Plan.{Plan}
use Rattle.jobs.specs.declared.Tasks.{Tasks}
use Rattle.dispatch.specs.Rules.{finish, mark_late, release, run, age, count_preempted}
use Rattle.dispatch.specs.States.{well_made}
use Rattle.dispatch.specs.declared.State.{State}

-- 4, 6, 5 and 8 for the plan, 9 for the state
unfoldable pub checked : Plan → State → Answer
checked p s = and_then (checked_plan p) (cond (well_made p s) Accepted (Refused NotWellMade))

-- the state after the rules
unfoldable pub next_state : Plan → Tasks → Tasks → State → State
next_state p fs rs s =
    let after : State = finish p fs s in
    age p (count_preempted p after (run p (release p rs (mark_late p after))))
