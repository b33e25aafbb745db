-- Each public contract settles its result.
use Rattle.tasks.proofs.Settling.{Settles, settled}
use Rattle.jobs.proofs.Job.is_active.Reads as is-active
use Rattle.jobs.proofs.Job.once_released.Reads as once-released
use Rattle.jobs.proofs.marks.Reads as marks
use Rattle.jobs.proofs.well_made.Reads as well-made

pub is_active_settled : Settles (is-active.Post tt)
is_active_settled x e r s p q = settled p q

pub once_released_settled : Settles (once-released.Post tt)
once_released_settled x e r s p q = settled p q

pub marks_settled : Settles (marks.Post tt)
marks_settled x e r s p q = settled p q

pub well_made_settled : Settles (well-made.Post tt)
well_made_settled x e r s p q = settled p q
