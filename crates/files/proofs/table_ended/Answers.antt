use Rattle.files.proofs.Ends.{table_room}
use Rattle.files.proofs.table_ended.Goals as goal

pub returns-clause-room : goal.returns-clause-room
returns-clause-room c = table_room _ _ _ _ c.check_tasks.ensures
