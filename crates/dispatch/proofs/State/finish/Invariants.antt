use mathlib.Core.Path.{◌≡◌}
use Rattle.tasks.specs.Below.{padded}
use Rattle.jobs.specs.Jobs.{no_job}
use Rattle.dispatch.specs.States.{job_of}
use Rattle.dispatch.specs.Rules.{finished_job}
use Rattle.dispatch.proofs.State.finish.Given as goal

abbrev pub invariant-loop-i : goal.invariant-loop-i
invariant-loop-i l = l.jobs ≡ padded 64 l.i no_job (λ k. finished_job l.fn.finished k (job_of l.fn.self k))
