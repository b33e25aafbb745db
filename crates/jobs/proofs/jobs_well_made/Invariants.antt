use mathlib.Core.Path.{◌≡◌}
use Prim.Native.Nat.{min}
use lib.ListN.{get_or}
use Rattle.tasks.specs.Below.{all}
use Rattle.jobs.specs.Jobs.{no_job}
use Rattle.jobs.specs.WellMade.{job_well_made}
use Rattle.jobs.proofs.jobs_well_made.Given as goal

abbrev pub invariant-loop-i : goal.invariant-loop-i
invariant-loop-i l = (l.i-end ≡ min l.plan.count 64) × (l.good ≡ all l.i (λ k. job_well_made l.plan k (get_or l.jobs k no_job)))
