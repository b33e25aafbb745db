-- What an accepted tick has passed.
use mathlib.Core.Path.{◌≡◌, refl}
use mathlib.Core.Bool.{Bool, true, false, ◌&&◌, cond}
use Prim.Native.Nat.{ℕ, ◌<◌}
use Rattle.tasks.proofs.Below.{any_each}
use Rattle.tasks.specs.Below.{first}
use Rattle.tasks.specs.Tables.{task_no, and_then}
use Rattle.tasks.specs.Answers.{Answer, Accepted, Refused}
use Rattle.tasks.specs.declared.Refusal.{Refusal}
use Rattle.tasks.specs.declared.Refusal.TheVariants.{NotRun, TooSoon, StillActive}
use Rattle.tasks.specs.declared.TaskNo.{TaskNo}
use Rattle.tasks.proofs.Answers.{accepted_not, both_accepted}
use Rattle.plans.specs.Shape.{checked_plan}
use Rattle.plans.specs.declared.Plan.{Plan}
use Rattle.dispatch.specs.Refusing.{not_run, too_soon, still_active, lowest, judged_sets}
use Rattle.dispatch.specs.Tick.{judged}
use Rattle.dispatch.specs.Rules.{finish}
use Rattle.jobs.specs.Sets.{member}
use Rattle.dispatch.specs.States.{well_made}
use Rattle.dispatch.specs.declared.State.{State}
use Rattle.jobs.specs.declared.Tasks.{Tasks}
use Rattle.dispatch.proofs.CheckedTick.{Taken, taken}

no_refusal : (b : Bool) (r : Refusal) (a : Answer) → cond b (Refused r) a ≡ Accepted → b ≡ false
no_refusal true r a h = accepted_not h
no_refusal false r a h = refl

pub record Passed (p : Plan) (s : State) (fs rs : Tasks) : Type 0 where
  pub plan : checked_plan p ≡ Accepted
  pub made : well_made p s ≡ true
  pub ran : (i : ℕ) → i < 256 → member fs i ≡ true → not_run p s i ≡ false
  pub old : (i : ℕ) → i < 256 → member rs i ≡ true → too_soon p (finish p fs s) i ≡ false
  pub over : (i : ℕ) → i < 256 → member rs i ≡ true → still_active p (finish p fs s) i ≡ false

lowest_says : (u : Tasks) (bad : ℕ → Bool) (say : TaskNo → Refusal) → lowest u bad say ≡ Accepted → (i : ℕ) → i < 256 → member u i ≡ true → bad i ≡ false
unfolding lowest
lowest_says u bad say h i l m = rw m at (any_each 256 wrong (no_refusal _ (say (task_no (first 256 wrong))) Accepted h) i l)
  where
    wrong : ℕ → Bool
    wrong t = member u t && bad t

pub tick_says : (p : Plan) (s : State) (fs rs : Tasks) → judged p s fs rs ≡ Accepted → Passed p s fs rs
unfolding judged_sets
tick_says p s fs rs h = record {
  plan = t.plan;
  made = t.state;
  ran = lowest_says fs (not_run p s) NotRun f.0;
  old = lowest_says rs (too_soon p (finish p fs s)) TooSoon r.0;
  over = lowest_says rs (still_active p (finish p fs s)) StillActive r.1;
}
  where
    t : Taken p s fs rs
    t = taken p s fs rs h

    f : (lowest fs (not_run p s) NotRun ≡ Accepted) × (and_then (lowest rs (too_soon p (finish p fs s)) TooSoon) (lowest rs (still_active p (finish p fs s)) StillActive) ≡ Accepted)
    f = both_accepted (lowest fs (not_run p s) NotRun) _ t.sets

    r : (lowest rs (too_soon p (finish p fs s)) TooSoon ≡ Accepted) × (lowest rs (still_active p (finish p fs s)) StillActive ≡ Accepted)
    r = both_accepted (lowest rs (too_soon p (finish p fs s)) TooSoon) _ f.1
