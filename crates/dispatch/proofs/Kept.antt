-- A tick from a well made state ends in a well made state; an accepted one leaves 0 or none past the plan's counts, and a refused one changes nothing.
use mathlib.Core.Path.{◌≡◌, refl, sym, ap, ◌∙◌}
use mathlib.Core.Bool.{true, false, not, ◌&&◌, cond}
use mathlib.Core.Logic.{◌⊎◌, inl, inr}
use Prim.Native.Nat.{ℕ, ◌≤◌, ◌<◌}
use native.Mathlib.Omega.{arith}
use lib.Dec.{ltb}
use lib.ListN.{replicate}
use borrow.Author.Tests.{lt-ltb, eq-eqb}
use Rattle.tasks.specs.Below.{any}
use Rattle.tasks.specs.Answers.{Answer, Accepted, Refused}
use Rattle.tasks.specs.declared.Refusal.{Refusal}
use Rattle.tasks.proofs.Below.{all_make, any_none}
use Rattle.tasks.proofs.Bools.{either, both, both_make}
use Rattle.tasks.proofs.Answers.{accepted_not}
use Rattle.tasks.proofs.Tabulate.{replicate_at}
use Rattle.plans.specs.declared.Plan.{Plan}
use Rattle.jobs.specs.Jobs.{no_job, no_run, by_runner, is_active, once_released, names, Runner, Idle, Runs}
use Rattle.dispatch.specs.States.{fresh_state, job_of, last_of, CleanState, well_made}
use Rattle.dispatch.specs.Tick.{judged, answered, tick}
use Rattle.dispatch.specs.Rules.{each_job, finish, mark_late, release, stands_on, highest, runs_now, ran_job, run, count_preempted, aged_job, age}
use Rattle.dispatch.specs.Advance.{next_state}
use Rattle.jobs.specs.WellMade.{job_well_made, core_well_made}
use Rattle.dispatch.specs.declared.State.{State}
use Rattle.jobs.specs.declared.Tasks.{Tasks}
use Rattle.dispatch.specs.declared.Ticked.{Ticked}
use Rattle.dispatch.proofs.Checked.{Good, good}
use Rattle.dispatch.proofs.CheckedTick.{Taken, taken}
use Rattle.dispatch.proofs.Highest.{runner_stands, runs_once}
use Rattle.dispatch.proofs.Sitting.{aged_phase, stepped_once}
use Rattle.dispatch.proofs.Steps.{each_out, run_in, age_in, count_in_lem, run_last, run_past, made_all, finish_all, mark_all, release_all, run_all, count_all, age_all}

-- the jobs when the runners are chosen
abbrev pub ready : Plan → Tasks → Tasks → State → State
ready p fs rs s = release p rs (mark_late p (finish p fs s))

module _ (p : Plan) (g : Good p) (fs rs : Tasks) (s : State) where
  -- what ran is what was chosen
  pub next_last : (x : ℕ) → x < p.cores → last_of (next_state p fs rs s) x ≡ highest p (ready p fs rs s) x p.count
  unfolding next_state age each_job count_preempted
  next_last x l = run_last p g (ready p fs rs s) x l

  pub next_past : (x : ℕ) → p.cores ≤ x → last_of (next_state p fs rs s) x ≡ Idle
  unfolding next_state age each_job count_preempted
  next_past x l = run_past p g (ready p fs rs s) x l

  -- a job in the next state, from where it was when the runners were chosen
  pub next_job : (i : ℕ) → i < p.count → job_of (next_state p fs rs s) i ≡ aged_job p i (cond (runs_now p (ready p fs rs s) i) (ran_job p (job_of (ready p fs rs s) i)) (job_of (ready p fs rs s) i))
  unfolding next_state
  next_job i l =
      age_in p g (count_preempted p (finish p fs s) (run p (ready p fs rs s))) i l
      ∙ ap (aged_job p i) (count_in_lem p g (run p (ready p fs rs s)) i l (finish p fs s) ∙ run_in p g (ready p fs rs s) i l)

  -- a job that was active then has been released
  next_once : (i : ℕ) → i < p.count → is_active (job_of (ready p fs rs s) i).phase ≡ true → once_released (job_of (next_state p fs rs s) i).phase ≡ true
  next_once i l h = rw (next_job i l, aged_phase) (stepped_once p (runs_now p (ready p fs rs s) i) (job_of (ready p fs rs s) i) h)

  -- each job and each core of the next state
  next_jobs : well_made p s ≡ true → (i : ℕ) → i < p.count → job_well_made p i (job_of (next_state p fs rs s) i) ≡ true
  unfolding next_state
  next_jobs m = age_all p g _ (count_all p g (finish p fs s) _ (run_all p g _ (release_all p g rs _ (mark_all p g _ (finish_all p g fs s (made_all p g s m))))))

  next_cores : (x : ℕ) → x < p.cores → core_well_made p (next_state p fs rs s).jobs (next_state p fs rs s).last x ≡ true
  unfolding core_well_made
  next_cores x l = go (last_of (next_state p fs rs s) x) (sym (next_last x l))
    where
      go : (r : Runner) → highest p (ready p fs rs s) x p.count ≡ r → by_runner r true (λ t. ltb t p.count && once_released (job_of (next_state p fs rs s) t).phase && not (any x (λ y. names t (last_of (next_state p fs rs s) y)))) ≡ true
      go Idle e = refl
      go (Runs t) e =
          let a : (t.0 < p.count) × (stands_on p (ready p fs rs s) x t.0 ≡ true) = runner_stands p (ready p fs rs s) x p.count t e in
          both_make (both_make (lt-ltb t.0 p.count a.0) (next_once t.0 a.0 (both {a = is_active (job_of (ready p fs rs s) t.0).phase} a.1).0)) (ap not (any_none x _ (λ y b. other y b (either _))))
        where
          other : (y : ℕ) → y < x → (names t.0 (last_of (next_state p fs rs s) y) ≡ true) ⊎ (names t.0 (last_of (next_state p fs rs s) y) ≡ false) → names t.0 (last_of (next_state p fs rs s) y) ≡ false
          other y b (inr h) = h
          other y b (inl h) = absurd (omega (arith, runs_once p (ready p fs rs s) p.count x y t.0 (rw e (eq-eqb t.0 t.0 refl)) (rw (next_last y (omega arith)) at h)))

  -- the state after an accepted tick is well made
  pub next_made : well_made p s ≡ true → well_made p (next_state p fs rs s) ≡ true
  unfolding well_made
  next_made m = both_make (all_make p.count _ (next_jobs m)) (all_make p.cores _ next_cores)

  -- and past the plan's counts it has 0 and none
  pub next_clean : CleanState p (next_state p fs rs s)
  unfolding next_state age
  next_clean = record { jobs = each_out p (aged_job p) _; last = next_past }

-- ---- the theorems
module _ (p : Plan) (s : State) (fs rs : Tasks) where
  -- a tick is refused, and has changed nothing, or accepted, and has made the next state
  pub by_judged : (P : Ticked → Type 0) → ((r : Refusal) → judged p s fs rs ≡ Refused r → P (record { answer = Refused r; runs = replicate 16 no_run; state = s })) → (judged p s fs rs ≡ Accepted → P (record { answer = Accepted; runs = (next_state p fs rs s).last; state = next_state p fs rs s })) → P (tick p s fs rs)
  unfolding tick
  by_judged P refused accepted = go (judged p s fs rs) refl
    where
      go : (a : Answer) → judged p s fs rs ≡ a → P (answered (judged p s fs rs) s (next_state p fs rs s))
      go (Refused r) e = rw e (refused r e)
      go Accepted e = rw e (accepted e)

  pub accepted_state : judged p s fs rs ≡ Accepted → (tick p s fs rs).state ≡ next_state p fs rs s
  unfolding tick
  accepted_state e = rw e

  -- a refused tick changes nothing, and nothing runs
  pub refused_nothing : (r : Refusal) → (tick p s fs rs).answer ≡ Refused r → ((tick p s fs rs).state ≡ s) × ((tick p s fs rs).runs ≡ replicate 16 no_run)
  refused_nothing r = by_judged (λ t. t.answer ≡ Refused r → (t.state ≡ s) × (t.runs ≡ replicate 16 no_run)) (λ k e h. (refl, refl)) (λ e h. accepted_not (sym h))

  -- a tick from a well made state ends in a well made state
  pub kept : well_made p s ≡ true → well_made p (tick p s fs rs).state ≡ true
  kept m = by_judged (λ t. well_made p t.state ≡ true) (λ r e. m) (λ e. next_made p (good p (taken p s fs rs e).plan) fs rs s m)

  -- and an accepted one is from a well made state, and its own is clean
  pub accepted_made : (tick p s fs rs).answer ≡ Accepted → (well_made p s ≡ true) × (well_made p (tick p s fs rs).state ≡ true) × CleanState p (tick p s fs rs).state
  accepted_made = by_judged (λ t. t.answer ≡ Accepted → (well_made p s ≡ true) × (well_made p t.state ≡ true) × CleanState p t.state) (λ r e h. accepted_not h) (λ e h. let k : Taken p s fs rs = taken p s fs rs e in let g : Good p = good p k.plan in (k.state, next_made p g fs rs s k.state, next_clean p g fs rs s))

-- ---- a fresh state is well made and clean, whatever the plan
fresh_job : (i : ℕ) → job_of fresh_state i ≡ no_job
fresh_job i = replicate_at 64 i no_job

fresh_core : (x : ℕ) → last_of fresh_state x ≡ Idle
fresh_core x = ap (λ (c : Runner). c) (replicate_at 16 x no_run)

pub fresh_made : (p : Plan) → well_made p fresh_state ≡ true
unfolding well_made job_well_made core_well_made
fresh_made p = both_make (all_make p.count _ (λ i l. rw (fresh_job i))) (all_make p.cores _ (λ x l. rw (fresh_core x)))

pub fresh_clean : (p : Plan) → CleanState p fresh_state
fresh_clean p = record { jobs = λ i l. fresh_job i; last = λ x l. fresh_core x }
