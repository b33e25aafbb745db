use Rattle.files.proofs.Ends.{plan_room}
use Rattle.files.proofs.plan_ended.Goals as goal

pub returns-clause-room : goal.returns-clause-room
returns-clause-room c = plan_room _ _ c.check_plan.ensures
