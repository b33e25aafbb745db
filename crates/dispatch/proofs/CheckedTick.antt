-- What an accepted tick is.
use mathlib.Core.Path.{◌≡◌}
use mathlib.Core.Bool.{true}
use Rattle.tasks.specs.Answers.{Accepted}
use Rattle.plans.specs.declared.Plan.{Plan}
use Rattle.plans.specs.Shape.{checked_plan}
use Rattle.jobs.specs.declared.Tasks.{Tasks}
use Rattle.dispatch.specs.Advance.{checked}
use Rattle.dispatch.specs.States.{well_made}
use Rattle.dispatch.specs.declared.State.{State}
use Rattle.dispatch.proofs.Checked.{Ready, ready_checked}
use Rattle.tasks.proofs.Answers.{both_accepted}
use Rattle.dispatch.specs.Refusing.{judged_sets}
use Rattle.dispatch.specs.Tick.{judged}

-- an accepted tick is of an accepted plan, a well made state and accepted sets
pub record Taken (p : Plan) (s : State) (fs rs : Tasks) : Type 0 where
  pub plan : checked_plan p ≡ Accepted
  pub state : well_made p s ≡ true
  pub sets : judged_sets p s fs rs ≡ Accepted

pub taken : (p : Plan) (s : State) (fs rs : Tasks) → judged p s fs rs ≡ Accepted → Taken p s fs rs
unfolding judged
taken p s fs rs h =
    let a : (checked p s ≡ Accepted) × (judged_sets p s fs rs ≡ Accepted) = both_accepted _ _ h in
    let r : Ready p s = ready_checked p s a.0 in
    record { plan = r.plan; state = r.state; sets = a.1 }
