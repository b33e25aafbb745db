-- The age of a task's job is the number of ticks accepted since its last accepted release, that tick counted, up to its period.
use mathlib.Core.Path.{◌≡◌, refl, ap}
use mathlib.Core.Logic.{◌⊎◌, inl, inr}
use mathlib.Core.Bool.{Bool, true, false, ◌&&◌, cond}
use mathlib.Core.List.{List, [], ◌∷◌}
use mathlib.Core.Option.{Option, none, some}
use Prim.Native.Nat.{ℕ, suc, ◌+◌, ◌<◌, min}
use native.Mathlib.Omega.{arith}
use lib.Dec.{ltb}
use Rattle.tasks.proofs.Bools.{clash, either}
use Rattle.tasks.proofs.Tabulate.{replicate_at}
use Rattle.plans.proofs.InShape.{GoodPlan}
use Rattle.plans.specs.Pieces.{task_of}
use Rattle.plans.specs.declared.Plan.{Plan}
use Rattle.jobs.specs.Jobs.{no_job}
use Rattle.jobs.specs.Sets.{member}
use Rattle.jobs.specs.declared.Tasks.{Tasks}
use Rattle.dispatch.specs.Rules.{runs_now, finish}
use Rattle.dispatch.specs.States.{job_of, fresh_state}
use Rattle.dispatch.specs.declared.State.{State}
use Rattle.dispatch.proofs.Kept.{ready}
use Rattle.schedules.specs.Model as model
use Rattle.schedules.specs.Model.{Stage, never, active, ended, Model}
use Rattle.promise.proofs.Rules.{finish_stage, ready_stage, next_stage}
use Rattle.promise.proofs.Runs.{stepped, by_answer, after_append}
use Rattle.promise.specs.Requests.{Request, is_accepted, after, reached, tally, ticks, releases}
use Rattle.promise.specs.TooSoon.{LastRelease}
use Rattle.promise.specs.View.{stage_of, model_of}

-- so many ticks more since a release, if there was one
abbrev more : Option ℕ → ℕ → Option ℕ
more none n = none
more (some x) n = some (x + n)

-- no tick more
more_none : (o : Option ℕ) → more o 0 ≡ o
more_none none = refl
more_none (some x) = ap some (omega arith)

-- one tick more and then others
more_more : (o : Option ℕ) (n : ℕ) → more (more o 1) n ≡ more o (1 + n)
more_more none n = refl
more_more (some x) n = ap some (omega arith)

-- the stage of a job that was released so many ticks ago, or never
abbrev pub AsOld : (period : ℕ) → Option ℕ → Stage → Type 0
AsOld p none never = Unit {0}
AsOld p none (active a k r) = ⊥
AsOld p none (ended a) = ⊥
AsOld p (some x) never = ⊥
AsOld p (some x) (active a k r) = a ≡ min x p
AsOld p (some x) (ended a) = a ≡ min x p

-- rule 1 changes no age
finished_old : (p : ℕ) (o : Option ℕ) (b : Bool) (t : Stage) → AsOld p o t → AsOld p o (cond b (model.finish t) t)
unfolding model.finish
finished_old p o false t v = v
finished_old p none true never v = v
finished_old p none true (active a k r) v = elim v [ ]
finished_old p none true (ended a) v = elim v [ ]
finished_old p (some x) true never v = elim v [ ]
finished_old p (some x) true (active a k r) v = v
finished_old p (some x) true (ended a) v = v

-- rules 4 to 6 make a job one tick older
run_old : (M : Model) (i : ℕ) (o : Option ℕ) (b : Bool) (t : Stage) → AsOld (M.period i) o t → AsOld (M.period i) (more o 1) (model.run M i b t)
unfolding model.run model.older model.onward
run_old M i none b never v = v
run_old M i none b (active a k r) v = elim v [ ]
run_old M i none b (ended a) v = elim v [ ]
run_old M i (some x) b never v = elim v [ ]
run_old M i (some x) b (ended a) v = omega (arith, v)
run_old M i (some x) false (active a k r) v = omega (arith, v)
run_old M i (some x) true (active a k r) v = go (ltb (suc r) (M.cost k)) (M.last k)
  where
    go : (part last : Bool) → AsOld (M.period i) (some (x + 1)) (model.onward M part last (model.older M i a) k (suc r))
    go true last = omega (arith, v)
    go false true = omega (arith, v)
    go false false = omega (arith, v)

module _ (p : Plan) (c : GoodPlan p) (i : ℕ) (known : i < p.count) where
  -- the job of task i in state s was released so many ticks ago, or never
  abbrev pub Aged : Option ℕ → State → Type 0
  Aged o s = AsOld (task_of p i).period o (stage_of (job_of s i))

  -- rule 1 leaves it so
  pub finish_aged : (o : Option ℕ) (fs : Tasks) (s : State) → Aged o s → Aged o (finish p fs s)
  finish_aged o fs s v = rw (finish_stage p c fs s i known) (finished_old (task_of p i).period o (member fs i) (stage_of (job_of s i)) v)

  -- one accepted tick more, without a release
  step_aged : (o : Option ℕ) (s : State) (q : Request) → member q.released i ≡ false → Aged o s → Aged (more o 1) (stepped p s q)
  step_aged o s q e v =
      let w : Aged o (ready p q.finished q.released s) = rw (ready_stage p c q.finished q.released s i known, e) (finished_old (task_of p i).period o (member q.finished i) (stage_of (job_of s i)) v) in
      rw (next_stage p c q.finished q.released s i known) (run_old (model_of p) i o (runs_now p (ready p q.finished q.released s) i) (stage_of (job_of (ready p q.finished q.released s) i)) w)

  -- the tick of a release is the first
  release_aged : (s : State) (q : Request) → member q.released i ≡ true → Aged (some 1) (stepped p s q)
  unfolding model.release
  release_aged s q e =
      let w : Aged (some 0) (ready p q.finished q.released s) = rw (ready_stage p c q.finished q.released s i known, e) (omega arith) in
      rw (next_stage p c q.finished q.released s i known) (run_old (model_of p) i (some 0) (runs_now p (ready p q.finished q.released s) i) (stage_of (job_of (ready p q.finished q.released s) i)) w)

  -- the same number of ticks
  aged_same : {o o' : Option ℕ} (s : State) → o ≡ o' → Aged o s → Aged o' s
  aged_same s e v = rw (← e) v

  -- a list of requests more, none of them an accepted release
  after_aged : (qs : List Request) (o : Option ℕ) (s : State) → releases i p s qs ≡ 0 → Aged o s → Aged (more o (ticks p s qs)) (after p s qs)
  unfolding after tally
  after_aged [] o s z v = rw (more_none o) v
  after_aged (q ∷ qs) o s z v = by_answer p s q
      (λ t. cond (is_accepted t.answer && member q.released i) 1 0 + releases i p t.state qs ≡ 0 → Aged (more o (cond (is_accepted t.answer && true) 1 0 + ticks p t.state qs)) (after p t.state qs))
      (λ ok h. go (either (member q.released i)) h (after_aged qs))
      (λ r h. aged_same (after p s qs) (ap (more o) (omega arith)) (after_aged qs o s (omega arith) v)) z
    where
      go : (member q.released i ≡ true) ⊎ (member q.released i ≡ false) → cond (member q.released i) 1 0 + releases i p (stepped p s q) qs ≡ 0
          → ((o : Option ℕ) (s : State) → releases i p s qs ≡ 0 → Aged o s → Aged (more o (ticks p s qs)) (after p s qs)) → Aged (more o (1 + ticks p (stepped p s q) qs)) (after p (stepped p s q) qs)
      go (inl e) h ih = let w : 1 + releases i p (stepped p s q) qs ≡ 0 = rw e at h in absurd (omega arith)
      go (inr e) h ih =
          let w : 0 + releases i p (stepped p s q) qs ≡ 0 = rw e at h in
          aged_same (after p (stepped p s q) qs) (more_more o (ticks p (stepped p s q) qs)) (ih (more o 1) (stepped p s q) (omega arith) (step_aged o s q e v))

  -- a task that was never released
  pub never_aged : (qs : List Request) → releases i p fresh_state qs ≡ 0 → Aged none (reached p qs)
  never_aged qs z = after_aged qs none fresh_state z (rw (replicate_at 64 i no_job) tt)

  -- a task with a last release
  pub release_since : (qs : List Request) (r : LastRelease p fresh_state qs i) → Aged (some (ticks p (reached p r.before) (r.last ∷ r.later))) (reached p qs)
  unfolding after tally
  release_since qs r = rw (r.all, after_append p fresh_state r.before (r.last ∷ r.later)) (by_answer p (reached p r.before) r.last
      (λ t. is_accepted t.answer ≡ true → releases i p t.state r.later ≡ 0 → Aged (some (cond (is_accepted t.answer && true) 1 0 + ticks p t.state r.later)) (after p t.state r.later))
      (λ ok a z. after_aged r.later (some 1) (stepped p (reached p r.before) r.last) z (release_aged (reached p r.before) r.last r.released))
      (λ k a z. clash a refl) r.accepted r.none)
