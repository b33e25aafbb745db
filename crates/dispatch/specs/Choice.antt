-- How the choice of runners walks over the jobs: where each job stands, and the best found so far on each core.
use Rattle.std.specs.Prelude.{false, not, List, ◌≡◌, ℕ}
use Rattle.tasks.specs.Below.{padded}
use Rattle.plans.specs.Pieces.{no_piece, task_of, piece_of}
use Rattle.plans.specs.Shape.{is_last}
use Rattle.plans.specs.declared.Plan.{Plan}
use Rattle.jobs.specs.Jobs.{is_active, Runner}
use Rattle.dispatch.specs.States.{job_of}
use Rattle.dispatch.specs.Rules.{piece_at, highest}
use Rattle.dispatch.specs.Sound.{AtPieces}
use Rattle.dispatch.specs.declared.Stand.{Stand}
use Rattle.dispatch.specs.declared.State.{State}

abbrev pub no_stand : Stand
no_stand = record { active = false; more = false; piece = no_piece; deadline = 0 }

-- where task i's job stands
abbrev pub stand_of : Plan → State → ℕ → Stand
stand_of p s i = record {
  active = is_active (job_of s i).phase;
  more = not (is_last (piece_of p) p.placed (job_of s i).piece);
  piece = piece_at p s i;
  deadline = (task_of p (piece_at p s i).task.0).deadline;
}

-- the stands of a state whose jobs are at pieces of the plan
pub record StandsOf (p : Plan) (s : State) (stands : List Stand) : Type 0 where
  pub pieces : AtPieces p s
  pub list : stands ≡ padded 64 p.count no_stand (stand_of p s)

-- of the first k tasks, the highest ranked on core x
abbrev pub found : Plan → State → ℕ → ℕ → Runner
found p s k x = highest p s x k
