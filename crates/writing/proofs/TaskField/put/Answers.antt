use Rattle.writing.specs.Fields.{task_field}
use Rattle.writing.proofs.TaskField.put.Goals as goal

pub returns : goal.returns
unfolding task_field
returns c = simp (c.put4-3.ensures, c.put4-2.ensures, c.put4.ensures)
