-- The dispatcher's plan and state as the promise sees them.
use Rattle.std.specs.Prelude.{Bool, ℕ}
use Rattle.tasks.specs.Below.{any}
use Rattle.plans.specs.Pieces.{task_of, piece_of, earlier}
use Rattle.plans.specs.Rank.{above}
use Rattle.plans.specs.Shape.{is_last}
use Rattle.plans.specs.declared.Plan.{Plan}
use Rattle.jobs.specs.Jobs.{names}
use Rattle.dispatch.specs.States.{job_of, last_of}
use Rattle.dispatch.specs.Rules.{first_piece}
use Rattle.jobs.specs.declared.Job.{Job}
use Rattle.jobs.specs.declared.Phase.{Phase}
use Rattle.jobs.specs.declared.Phase.TheVariants.{Never, Active, Ended}
use Rattle.dispatch.specs.declared.State.{State}
use Rattle.schedules.specs.Model.{Stage, never, active, ended, Model}
use Rattle.schedules.specs.Moments.{Moment}

-- where a job stands
abbrev pub stage_as : Phase → (age piece ran : ℕ) → Stage
stage_as Never a k r = never
stage_as Active a k r = active a k r
stage_as Ended a k r = ended a

abbrev pub stage_of : Job → Stage
stage_of j = stage_as j.phase j.age j.piece j.ran

-- some core ran task i in the tick before
abbrev pub ran_last : Plan → State → ℕ → Bool
ran_last p s i = any p.cores (λ x. names i (last_of s x))

-- the state of the dispatcher
abbrev pub moment_of : Plan → State → Moment
moment_of p s = record { stage = λ i. stage_of (job_of s i); ran = ran_last p s }

-- the plan, over document 01's rank
abbrev pub model_of : Plan → Model
model_of p = record {
  tasks = p.count;
  pieces = p.placed;
  task = λ j. (piece_of p j).task.0;
  cost = λ j. (piece_of p j).cost;
  off = earlier (piece_of p);
  last = is_last (piece_of p) p.placed;
  above = λ j q. above (task_of p) (piece_of p j) (piece_of p q);
  first = first_piece p;
  period = λ i. (task_of p i).period;
}
