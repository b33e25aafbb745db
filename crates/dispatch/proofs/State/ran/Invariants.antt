use mathlib.Core.Bool.{cond}
use mathlib.Core.Path.{◌≡◌}
use Prim.Native.Nat.{ℕ}
use Rattle.plans.specs.declared.Plan.{Plan}
use Rattle.jobs.specs.declared.Job.{Job}
use Rattle.dispatch.specs.Rules.{runs_now, ran_job}
use Rattle.dispatch.specs.declared.State.{State}
use Rattle.dispatch.proofs.InPlace.{changed}
use Rattle.dispatch.proofs.State.ran.Given as goal

-- rules 4 and 5 for one job
abbrev pub ran_by : Plan → State → ℕ → Job → Job
ran_by p s i j = cond (runs_now p s i) (ran_job p j) j

abbrev pub invariant-loop-i : goal.invariant-loop-i
invariant-loop-i l = l.self ≡ changed (ran_by l.fn.plan l.fn.self) l.fn.self l.i
