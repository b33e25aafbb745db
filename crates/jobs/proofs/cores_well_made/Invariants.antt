use mathlib.Core.Path.{◌≡◌}
use Prim.Native.Nat.{min, ◌≤◌}
use lib.ListN.{get_or}
use Rattle.tasks.specs.Below.{all, any, tabulate}
use Rattle.plans.specs.declared.Plan.{Plan}
use Rattle.jobs.specs.Jobs.{no_run, names}
use Rattle.jobs.specs.WellMade.{core_well_made}
use Rattle.jobs.proofs.cores_well_made.Given as goal

abbrev pub invariant-loop-x : goal.invariant-loop-x
invariant-loop-x l = (l.x-end ≤ 16) × (l.seen ≡ tabulate 256 (λ t. any l.x (λ y. names t (get_or l.last y no_run)))) × ((p : Plan) → l.count ≡ min p.count 64 → l.good ≡ all l.x (core_well_made p l.jobs l.last))
