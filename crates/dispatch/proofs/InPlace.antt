-- Jobs that a walk changes where they stand.
use mathlib.Core.Path.{◌≡◌, refl, ap, ◌∙◌}
use mathlib.Core.Bool.{cond}
use mathlib.Core.List.{List}
use Prim.Native.Nat.{ℕ, ◌+◌, ◌<◌}
use native.Mathlib.Decide.{dec_lt}
use native.Mathlib.Omega.{arith}
use lib.Dec.{ltb}
use lib.ListN.{length, set}
use borrow.Author.Tests.{lt-ltb, le-ltb}
use Rattle.tasks.specs.Below.{tabulate}
use Rattle.tasks.proofs.Padded.{tabulate_length, tabulate_at, tabulate_is, padded_is}
use Rattle.tasks.proofs.Tabulate.{tabulate_turn}
use Rattle.plans.specs.declared.Plan.{Plan}
use Rattle.jobs.specs.Jobs.{no_job}
use Rattle.jobs.specs.declared.Job.{Job}
use Rattle.dispatch.specs.Rules.{each_job}
use Rattle.dispatch.specs.Sound.{Filled}
use Rattle.dispatch.specs.States.{job_of}
use Rattle.dispatch.specs.declared.State.{State}

-- a state with other jobs
abbrev pub with_jobs : State → List Job → State
with_jobs s js = record { jobs = js; last = s.last; late = s.late; preemptions = s.preemptions }

module _ (f : ℕ → Job → Job) (s : State) where
  -- the first i jobs are changed, the others are as they were
  abbrev job_at : ℕ → ℕ → Job
  job_at i k = cond (ltb k i) (f k (job_of s k)) (job_of s k)

  unfoldable pub changed : ℕ → State
  changed i = with_jobs s (tabulate 64 (job_at i))

  pub changed_start : length s.jobs ≡ 64 → s ≡ changed 0
  unfolding changed
  changed_start l = ap (with_jobs s) (tabulate_is 64 (job_at 0) s.jobs no_job l (λ k b. rw (le-ltb k 0 (omega arith))))

  -- the next job is as it was
  pub changed_same : (t : State) (i : ℕ) → t ≡ changed i → i < 64 → job_of t i ≡ job_of s i
  unfolding changed
  changed_same t i e b = rw e (tabulate_at 64 (job_at i) i no_job b ∙ rw (le-ltb i i (omega arith)))

  -- one job more is one store
  pub changed_turn : (t : State) (i : ℕ) (j : Job) → t ≡ changed i → i < 64 → j ≡ f i (job_of t i) → with_jobs t (set t.jobs i j) ≡ changed (i + 1)
  unfolding changed
  changed_turn t i j e b h =
      let here : j ≡ job_at (i + 1) i = rw (lt-ltb i (i + 1) (omega arith)) (h ∙ ap (f i) (changed_same t i e b)) in
      rw e (ap (with_jobs s) (tabulate_turn 64 (job_at i) (job_at (i + 1)) _ i j refl b here (λ k n. other k n (dec_lt k i))))
    where
      other : (k : ℕ) → (k ≡ i → ⊥) → Dec (k < i) → job_at i k ≡ job_at (i + 1) k
      other k n (yes l) = rw (lt-ltb k i l, lt-ltb k (i + 1) (omega arith))
      other k n (no l) = rw (le-ltb k i (omega arith), le-ltb k (i + 1) (omega (arith, n)))

  -- after the plan's last task all its jobs are changed
  pub changed_all : (p : Plan) → Filled p.count s → changed p.count ≡ each_job p f s
  unfolding changed each_job
  changed_all p c = ap (with_jobs s) (padded_is 64 no_job p.count _ _ (tabulate_length 64 _) (λ k l b. tabulate_at 64 (job_at p.count) k no_job b ∙ rw (lt-ltb k p.count l)) (λ k l b. tabulate_at 64 (job_at p.count) k no_job b ∙ rw (le-ltb k p.count l) (c.rest k l)))
