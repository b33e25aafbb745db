-- The rules from state to state: what each does to a job, and that each keeps the jobs as they sit.
use mathlib.Core.Path.{◌≡◌, refl, ap}
use mathlib.Core.Bool.{true, cond}
use Prim.Native.Nat.{ℕ, ◌≤◌, ◌<◌}
use native.Mathlib.Omega.{arith}
use Rattle.tasks.specs.Below.{all}
use Rattle.tasks.proofs.Below.{all_each}
use Rattle.tasks.proofs.Bools.{both}
use Rattle.tasks.proofs.Padded.{padded_length, padded_in, padded_out}
use Rattle.plans.specs.declared.Plan.{Plan}
use Rattle.jobs.specs.Jobs.{no_job, no_run, names, Runner, Idle}
use Rattle.dispatch.specs.States.{job_of, last_of, well_made}
use Rattle.dispatch.specs.Rules.{each_job, finished_job, finish, marked_job, mark_late, released_job, release, piece_at, highest, chosen, runs_now, ran_job, run, count_preempted, aged_job, age}
use Rattle.dispatch.specs.Sound.{AtPieces, Filled}
use Rattle.jobs.specs.WellMade.{job_well_made}
use Rattle.jobs.specs.declared.Job.{Job}
use Rattle.dispatch.specs.declared.State.{State}
use Rattle.jobs.specs.declared.Tasks.{Tasks}
use Rattle.dispatch.proofs.Checked.{Good}
use Rattle.dispatch.proofs.Sitting.{sits, made_sits, finished_sits, marked_sits, released_sits, stepped_sits, aged_made, sits_placed}

-- each of the plan's jobs sits
abbrev pub Sits : Plan → State → Type 0
Sits p s = (i : ℕ) → i < p.count → sits p i (job_of s i) ≡ true

-- past the plan's tasks a rule leaves no job
pub each_out : (p : Plan) (f : ℕ → Job → Job) (s : State) (i : ℕ) → p.count ≤ i → job_of (each_job p f s) i ≡ no_job
unfolding each_job
each_out p f s i l = padded_out 64 no_job p.count (λ k. f k (job_of s k)) i l

pub finish_out : (p : Plan) (fs : Tasks) (s : State) (i : ℕ) → p.count ≤ i → job_of (finish p fs s) i ≡ no_job
unfolding finish
finish_out p fs s i l = each_out p (finished_job fs) s i l

-- a rule leaves a whole list of jobs, and none past the plan's tasks
each_filled : (p : Plan) (f : ℕ → Job → Job) (s t : State) → t.jobs ≡ (each_job p f s).jobs → Filled p.count t
unfolding each_job
each_filled p f s t e = record { whole = rw e (padded_length 64 no_job p.count _); rest = λ i l. rw e (each_out p f s i l) }

module _ (p : Plan) (s : State) where
  pub finish_filled : (fs : Tasks) → Filled p.count (finish p fs s)
  unfolding finish
  finish_filled fs = each_filled p (finished_job fs) s _ refl

  pub mark_filled : Filled p.count (mark_late p s)
  unfolding mark_late
  mark_filled = each_filled p (marked_job p) s _ refl

  pub release_filled : (rs : Tasks) → Filled p.count (release p rs s)
  unfolding release
  release_filled rs = each_filled p (released_job p rs) s _ refl

  pub run_filled : (after : State) → Filled p.count (count_preempted p after (run p s))
  unfolding run count_preempted
  run_filled after = each_filled p (λ i j. cond (runs_now p s i) (ran_job p j) j) s _ refl

module _ (p : Plan) (g : Good p) where
  -- ---- what a rule does to the job of a task of the plan
  pub each_in : (f : ℕ → Job → Job) (s : State) (i : ℕ) → i < p.count → job_of (each_job p f s) i ≡ f i (job_of s i)
  unfolding each_job
  each_in f s i l = padded_in 64 no_job p.count (λ k. f k (job_of s k)) i l (omega (arith, g.count))

  module _ (s : State) (i : ℕ) (l : i < p.count) where
    pub finish_in : (fs : Tasks) → job_of (finish p fs s) i ≡ finished_job fs i (job_of s i)
    unfolding finish
    finish_in fs = each_in (finished_job fs) s i l

    pub mark_in : job_of (mark_late p s) i ≡ marked_job p i (job_of s i)
    unfolding mark_late
    mark_in = each_in (marked_job p) s i l

    pub release_in : (rs : Tasks) → job_of (release p rs s) i ≡ released_job p rs i (job_of s i)
    unfolding release
    release_in rs = each_in (released_job p rs) s i l

    pub run_in : job_of (run p s) i ≡ cond (runs_now p s i) (ran_job p (job_of s i)) (job_of s i)
    unfolding run
    run_in = each_in (λ k j. cond (runs_now p s k) (ran_job p j) j) s i l

    pub age_in : job_of (age p s) i ≡ aged_job p i (job_of s i)
    unfolding age
    age_in = each_in (aged_job p) s i l

    pub count_in_lem : (after : State) → job_of (count_preempted p after s) i ≡ job_of s i
    unfolding count_preempted
    count_in_lem after = refl

  pub run_last : (s : State) (x : ℕ) → x < p.cores → last_of (run p s) x ≡ highest p s x p.count
  unfolding run
  run_last s x l = ap (λ (c : Runner). c) (padded_in 16 no_run p.cores (chosen p s) x l (omega (arith, g.cores)))

  pub run_past : (s : State) (x : ℕ) → p.cores ≤ x → last_of (run p s) x ≡ Idle
  unfolding run
  run_past s x l = ap (λ (c : Runner). c) (padded_out 16 no_run p.cores (chosen p s) x l)

  -- ---- each rule keeps the jobs as they sit
  pub made_all : (s : State) → well_made p s ≡ true → Sits p s
  unfolding well_made
  made_all s m i l = let j : Job = job_of s i in made_sits p i j.phase j.late j.piece j.age j.ran (all_each p.count _ (both {a = all p.count (λ k. job_well_made p k (job_of s k))} m).0 i l)

  pub finish_all : (fs : Tasks) (s : State) → Sits p s → Sits p (finish p fs s)
  finish_all fs s h i l = let j : Job = job_of s i in rw (finish_in s i l fs) (finished_sits p i fs j.phase j.late j.piece j.age j.ran (h i l))

  pub mark_all : (s : State) → Sits p s → Sits p (mark_late p s)
  mark_all s h i l = let j : Job = job_of s i in rw (mark_in s i l) (marked_sits p i j.phase j.late j.piece j.age j.ran (h i l))

  pub release_all : (rs : Tasks) (s : State) → Sits p s → Sits p (release p rs s)
  release_all rs s h i l = rw (release_in s i l rs) (released_sits p i g l rs (job_of s i) (h i l))

  pub run_all : (s : State) → Sits p s → Sits p (run p s)
  run_all s h i l = let j : Job = job_of s i in rw (run_in s i l) (stepped_sits p i g (names i (highest p s (piece_at p s i).core.0 p.count)) j.phase j.late j.piece j.age j.ran (h i l))

  pub count_all : (after s : State) → Sits p s → Sits p (count_preempted p after s)
  count_all after s h i l = rw (count_in_lem s i l after) (h i l)

  -- the ages make a well made state's jobs of them
  pub age_all : (s : State) → Sits p s → (i : ℕ) → i < p.count → job_well_made p i (job_of (age p s) i) ≡ true
  age_all s h i l = let j : Job = job_of s i in rw (age_in s i l) (aged_made p i (omega (arith, (g.values i l).some, (g.values i l).short, (g.values i l).inside)) j.phase j.late j.piece j.age j.ran (h i l))

  -- ---- what the rules count on
  pub at_pieces : (s : State) → Sits p s → AtPieces p s
  at_pieces s h i l = let j : Job = job_of s i in sits_placed p i g.some j.phase j.late j.piece j.age j.ran (h i l)

  pub ready_pieces : (fs rs : Tasks) (s : State) → well_made p s ≡ true → AtPieces p (release p rs (mark_late p (finish p fs s)))
  ready_pieces fs rs s m = at_pieces (release p rs (mark_late p (finish p fs s))) (release_all rs (mark_late p (finish p fs s)) (mark_all (finish p fs s) (finish_all fs s (made_all s m))))
