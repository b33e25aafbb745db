-- The six rules, seen as stages: what each does to the job of a task of the plan.
use mathlib.Core.Path.{◌≡◌, refl, sym, ap, ◌∙◌}
use mathlib.Core.Bool.{Bool, true, false, ◌&&◌, cond}
use Prim.Native.Nat.{ℕ, suc, ◌+◌, ◌≤◌, ◌<◌, min}
use native.Mathlib.Numerals.{add-one}
use native.Mathlib.Omega.{arith}
use lib.Dec.{leb, ltb, eqb}
use borrow.Author.Tests.{ltb-true, eqb-true, leb-true}
use Rattle.tasks.proofs.Below.{all_each}
use Rattle.tasks.proofs.Bools.{both, clash}
use Rattle.plans.proofs.InShape.{GoodPlan, plan_accepted}
use Rattle.plans.specs.Pieces.{task_of, piece_of}
use Rattle.plans.specs.Shape.{is_last}
use Rattle.plans.specs.declared.Plan.{Plan}
use Rattle.jobs.specs.Jobs.{is_active}
use Rattle.dispatch.specs.States.{job_of, well_made}
use Rattle.dispatch.specs.Rules.{ended_job, finished_job, turns_late, marked_job, first_piece, released_job, runs_now, ran_job, aged_job, finish, mark_late}
use Rattle.jobs.specs.Sets.{member}
use Rattle.dispatch.specs.Advance.{next_state}
use Rattle.jobs.specs.WellMade.{age_fits, piece_exists, job_well_made}
use Rattle.jobs.specs.declared.Job.{Job}
use Rattle.jobs.specs.declared.Phase.{Phase}
use Rattle.jobs.specs.declared.Phase.TheVariants.{Never, Active, Ended}
use Rattle.dispatch.specs.declared.State.{State}
use Rattle.jobs.specs.declared.Tasks.{Tasks}
use Rattle.dispatch.proofs.Checked.{Good, good}
use Rattle.dispatch.proofs.Steps.{finish_in, mark_in, release_in}
use Rattle.dispatch.proofs.Kept.{ready, next_job}
use Rattle.schedules.specs.Model as model
use Rattle.promise.specs.View.{stage_of, model_of}
use Rattle.promise.proofs.Sound.{first_piece_lem}

-- ---- each rule on one job
finished_stage : (fs : Tasks) (i : ℕ) (j : Job) → stage_of (finished_job fs i j) ≡ cond (member fs i) (model.finish (stage_of j)) (stage_of j)
unfolding model.finish
finished_stage fs i j = go (member fs i) j.phase refl
  where
    go : (b : Bool) (h : Phase) → j.phase ≡ h → stage_of (cond (b && is_active j.phase) (ended_job j) j) ≡ cond b (model.finish (stage_of j)) (stage_of j)
    go false h e = refl
    go true Never e = rw e
    go true Active e = rw e
    go true Ended e = rw e

marked_stage : (p : Plan) (i : ℕ) (j : Job) → stage_of (marked_job p i j) ≡ stage_of j
marked_stage p i j = go (turns_late p i j)
  where
    go : (b : Bool) → stage_of (cond b (record { phase = j.phase; late = true; piece = j.piece; age = j.age; ran = j.ran }) j) ≡ stage_of j
    go true = refl
    go false = refl

released_stage : (p : Plan) (rs : Tasks) (i : ℕ) (j : Job) → stage_of (released_job p rs i j) ≡ cond (member rs i) (model.release (model_of p) i) (stage_of j)
unfolding model.release
released_stage p rs i j = go (member rs i)
  where
    go : (b : Bool) → stage_of (cond b (record { phase = Active; late = false; piece = first_piece p i; age = 0; ran = 0 }) j) ≡ cond b (model.active 0 (first_piece p i) 0) (stage_of j)
    go true = refl
    go false = refl

run_stage : (p : Plan) (i : ℕ) (b : Bool) (j : Job) → (b ≡ true → is_active j.phase ≡ true) → stage_of (aged_job p i (cond b (ran_job p j) j)) ≡ model.run (model_of p) i b (stage_of j)
unfolding model.run model.older model.onward
run_stage p i false j h = go j.phase refl
  where
    go : (h : Phase) → j.phase ≡ h → stage_of (aged_job p i j) ≡ model.run (model_of p) i false (stage_of j)
    go Never e = rw e
    go Active e = rw (e, add-one j.age)
    go Ended e = rw (e, add-one j.age)
run_stage p i true j h = go j.phase refl (h refl)
  where
    go : (h : Phase) → j.phase ≡ h → is_active j.phase ≡ true → stage_of (aged_job p i (ran_job p j)) ≡ model.run (model_of p) i true (stage_of j)
    go Never e a = clash a (rw e)
    go Ended e a = clash a (rw e)
    go Active e a = rw (e, add-one j.ran) (end (ltb (suc j.ran) (piece_of p j.piece).cost) (is_last (piece_of p) p.placed j.piece))
      where
        end : (part last : Bool) → stage_of (aged_job p i (cond part (record { phase = Active; late = j.late; piece = j.piece; age = j.age; ran = suc j.ran }) (cond last (ended_job j) (record { phase = Active; late = j.late; piece = j.piece + 1; age = j.age; ran = 0 })))) ≡ model.onward (model_of p) part last (min (suc j.age) (task_of p i).period) j.piece (suc j.ran)
        end true last = rw (add-one j.age)
        end false true = rw (add-one j.age)
        end false false = rw (add-one j.age, add-one j.piece)

-- ---- an active job of a well made state is at a piece of its task, and not older than the period
pub record Standing (p : Plan) (i : ℕ) (j : Job) : Type 0 where
  pub known : j.piece < p.placed
  pub own : (piece_of p j.piece).task.0 ≡ i
  pub young : j.age ≤ (task_of p i).period

abbrev Stood : Plan → ℕ → Job → Type 0
Stood p i j = is_active j.phase ≡ true → Standing p i j

made_job : (p : Plan) (s : State) (i : ℕ) → well_made p s ≡ true → i < p.count → Stood p i (job_of s i)
unfolding well_made job_well_made
made_job p s i w h = go (job_of s i) (all_each p.count (λ k. job_well_made p k (job_of s k)) (both w).0 i h)
  where
    go : (j : Job) → job_well_made p i j ≡ true → Stood p i j
    go j m a = on j.phase refl
      where
        says : age_fits p i j && piece_exists p i j ≡ true → Standing p i j
        says g =
            let u : (age_fits p i j ≡ true) × (piece_exists p i j ≡ true) = both {a = age_fits p i j} g in
            let v : (ltb j.piece p.placed && eqb (piece_of p j.piece).task.0 i ≡ true) × (ltb j.ran (piece_of p j.piece).cost ≡ true) = both {a = ltb j.piece p.placed && eqb (piece_of p j.piece).task.0 i} u.1 in
            let k : (ltb j.piece p.placed ≡ true) × (eqb (piece_of p j.piece).task.0 i ≡ true) = both {a = ltb j.piece p.placed} v.0 in
            record { known = ltb-true _ _ k.0; own = eqb-true _ _ k.1; young = leb-true _ _ (both {a = leb 1 j.age} u.0).1 }

        on : (h : Phase) → j.phase ≡ h → Standing p i j
        on Never e = clash a (rw e)
        on Ended e = clash a (rw e)
        on Active e = says (rw e at m)

finished_stood : (p : Plan) (fs : Tasks) (i : ℕ) (j : Job) → Stood p i j → Stood p i (finished_job fs i j)
finished_stood p fs i j h = go (member fs i && is_active j.phase)
  where
    go : (b : Bool) → Stood p i (cond b (ended_job j) j)
    go true a = clash refl (sym a)
    go false a = h a

marked_stood : (p : Plan) (i : ℕ) (j : Job) → Stood p i j → Stood p i (marked_job p i j)
marked_stood p i j h = go (turns_late p i j)
  where
    go : (b : Bool) → Stood p i (cond b (record { phase = j.phase; late = true; piece = j.piece; age = j.age; ran = j.ran }) j)
    go true a = let t : Standing p i j = h a in record { known = t.known; own = t.own; young = t.young }
    go false a = h a

released_stood : (p : Plan) → GoodPlan p → (rs : Tasks) (i : ℕ) (j : Job) → i < p.count → Stood p i j → Stood p i (released_job p rs i j)
released_stood p c rs i j l h = go (member rs i)
  where
    go : (b : Bool) → Stood p i (cond b (record { phase = Active; late = false; piece = first_piece p i; age = 0; ran = 0 }) j)
    go true a = record { known = (first_piece_lem p c i l).0; own = (first_piece_lem p c i l).1; young = omega arith }
    go false a = h a

-- ---- the jobs of the states between the rules
module _ (p : Plan) (c : GoodPlan p) where
  -- the plan as the laws of the rules see it
  pub rightly : Good p
  rightly = good p (plan_accepted p c)

  pub finish_stood : (fs : Tasks) (s : State) (i : ℕ) → well_made p s ≡ true → i < p.count → Stood p i (job_of (finish p fs s) i)
  finish_stood fs s i w h = rw (finish_in p rightly s i h fs) (finished_stood p fs i (job_of s i) (made_job p s i w h))

  -- rule 1 as a stage
  pub finish_stage : (fs : Tasks) (s : State) (i : ℕ) → i < p.count → stage_of (job_of (finish p fs s) i) ≡ cond (member fs i) (model.finish (stage_of (job_of s i))) (stage_of (job_of s i))
  finish_stage fs s i h = ap stage_of (finish_in p rightly s i h fs) ∙ finished_stage fs i (job_of s i)

  module _ (fs rs : Tasks) (s : State) where
    ready_job : (i : ℕ) → i < p.count → job_of (ready p fs rs s) i ≡ released_job p rs i (marked_job p i (finished_job fs i (job_of s i)))
    ready_job i h = release_in p rightly (mark_late p (finish p fs s)) i h rs ∙ ap (released_job p rs i) (mark_in p rightly (finish p fs s) i h ∙ ap (marked_job p i) (finish_in p rightly s i h fs))

    pub ready_stood : (i : ℕ) → well_made p s ≡ true → i < p.count → Stood p i (job_of (ready p fs rs s) i)
    ready_stood i w h = rw (ready_job i h) (released_stood p c rs i _ h (marked_stood p i _ (finished_stood p fs i _ (made_job p s i w h))))

    -- rules 1 to 3 as stages
    pub ready_stage : (i : ℕ) → i < p.count → stage_of (job_of (ready p fs rs s) i) ≡ cond (member rs i) (model.release (model_of p) i) (cond (member fs i) (model.finish (stage_of (job_of s i))) (stage_of (job_of s i)))
    ready_stage i h = ap stage_of (ready_job i h) ∙ released_stage p rs i _ ∙ ap (cond (member rs i) (model.release (model_of p) i)) (marked_stage p i (finished_job fs i (job_of s i)) ∙ finished_stage fs i (job_of s i))

    -- rules 4 to 6 as stages
    pub next_stage : (i : ℕ) → i < p.count → stage_of (job_of (next_state p fs rs s) i) ≡ model.run (model_of p) i (runs_now p (ready p fs rs s) i) (stage_of (job_of (ready p fs rs s) i))
    next_stage i h = ap stage_of (next_job p rightly fs rs s i h) ∙ run_stage p i (runs_now p (ready p fs rs s) i) (job_of (ready p fs rs s) i) (λ e. (both {a = is_active (job_of (ready p fs rs s) i).phase} e).0)
