-- The jobs and cores of a well made state.
use Rattle.std.specs.Prelude.{Bool, true, not, ◌&&◌, List, ℕ, leb, ltb, eqb, get_or}
use Rattle.tasks.specs.Below.{all, any}
use Rattle.plans.specs.Pieces.{task_of, piece_of}
use Rattle.plans.specs.declared.Plan.{Plan}
use Rattle.jobs.specs.Jobs.{no_job, no_run, by_phase, by_runner, once_released, names, Runner}
use Rattle.jobs.specs.declared.Job.{Job}

-- once released, ages are at least 1 and at most p
abbrev pub age_fits : Plan → ℕ → Job → Bool
age_fits p i j = leb 1 j.age && leb j.age (task_of p i).period

-- an active job's piece exists, being its task's, and ticks run there are below its cost
abbrev pub piece_exists : Plan → ℕ → Job → Bool
piece_exists p i j =
    ltb j.piece p.placed && eqb (piece_of p j.piece).task.0 i && ltb j.ran (piece_of p j.piece).cost

-- all other tasks have piece, ticks and late mark 0
abbrev pub at_no_piece : Job → Bool
at_no_piece j = eqb j.piece 0 && eqb j.ran 0 && not j.late

-- before a release the age is 0
unfoldable pub job_well_made : Plan → ℕ → Job → Bool
job_well_made p i j =
    by_phase j.phase
    (eqb j.age 0 && at_no_piece j)
    (age_fits p i j && piece_exists p i j)
    (age_fits p i j && at_no_piece j)

abbrev pub jobs_well_made : Plan → List Job → Bool
jobs_well_made p jobs = all p.count (λ i. job_well_made p i (get_or jobs i no_job))

-- each core's last task is none or a task once released, and none stands on two cores
unfoldable pub core_well_made : Plan → List Job → List Runner → ℕ → Bool
core_well_made p jobs last x =
    by_runner (get_or last x no_run) true
    (λ t. ltb t p.count && once_released (get_or jobs t no_job).phase && not (any x (λ y. names t (get_or last y no_run))))

abbrev pub cores_well_made : Plan → List Job → List Runner → Bool
cores_well_made p jobs last = all p.cores (core_well_made p jobs last)
