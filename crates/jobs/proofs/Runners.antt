-- What runs on a core where no task does.
use mathlib.Core.Path.{◌≡◌, refl}
use Rattle.tasks.specs.declared.TaskNo.{TaskNo}
use Rattle.jobs.specs.Jobs.{Runner, Idle, Runs}

pub idle_else : (r : Runner) → ((t : TaskNo) → r ≡ Runs t → ⊥) → r ≡ Idle
idle_else Idle h = refl
idle_else (Runs t) h = absurd (h t refl)
