-- What the rules count on once the plan and the state have been checked.
use Rattle.std.specs.Prelude.{◌≡◌, ℕ, ◌≤◌, ◌<◌, length}
use Rattle.plans.specs.Pieces.{piece_of}
use Rattle.plans.specs.declared.Plan.{Plan}
use Rattle.jobs.specs.Jobs.{no_job}
use Rattle.dispatch.specs.States.{job_of}
use Rattle.dispatch.specs.declared.State.{State}

-- the counts are within the records, and each piece is of a task and on a core of the plan
pub record Sound (p : Plan) : Type 0 where
  pub cores : p.cores ≤ 16
  pub count : p.count ≤ 64
  pub placed : p.placed ≤ 128
  pub tasks : (j : ℕ) → j < p.placed → (piece_of p j).task.0 < p.count
  pub places : (j : ℕ) → j < p.placed → (piece_of p j).core.0 < p.cores

-- each job's piece is one of the plan's
abbrev pub AtPieces : Plan → State → Type 0
AtPieces p s = (i : ℕ) → i < p.count → (job_of s i).piece < p.placed

-- the list of jobs is whole, and past the first n there is none
pub record Filled (n : ℕ) (s : State) : Type 0 where
  pub whole : length s.jobs ≡ 64
  pub rest : (i : ℕ) → n ≤ i → job_of s i ≡ no_job
