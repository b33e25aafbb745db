-- Lists of requests: what an accepted one keeps, all that follow keep.
use mathlib.Core.Path.{◌≡◌, refl, sym, ap, ◌∙◌}
use mathlib.Core.Bool.{true, false, ◌&&◌, cond}
use mathlib.Core.List.{List, [], ◌∷◌, ◌++◌}
use Prim.Native.Nat.{ℕ, suc, ◌+◌, ◌≤◌, ◌<◌}
use native.Mathlib.Nat.{add-zero}
use native.Mathlib.Omega.{arith}
use borrow.Author.Tests.{ne_eqb}
use Rattle.tasks.proofs.Below.{any_none, sum_none}
use Rattle.tasks.proofs.Bools.{clash, not_first}
use Rattle.tasks.specs.Below.{any, count}
use Rattle.tasks.specs.Answers.{Answer, Accepted, Refused}
use Rattle.tasks.specs.declared.Refusal.{Refusal}
use Rattle.tasks.proofs.Tabulate.{replicate_at}
use Rattle.plans.proofs.InShape.{GoodPlan}
use Rattle.plans.specs.Pieces.{task_of, piece_of}
use Rattle.plans.specs.declared.Plan.{Plan}
use Rattle.jobs.specs.Jobs.{no_job, no_run, names, Runner}
use Rattle.dispatch.specs.States.{job_of, fresh_state}
use Rattle.dispatch.specs.Tick.{judged, answered, tick}
use Rattle.dispatch.specs.Rules.{each_job, total, turns_late, finish, mark_late, release, run, age, count_preempted}
use Rattle.jobs.specs.Sets.{member}
use Rattle.dispatch.specs.Advance.{next_state}
use Rattle.jobs.specs.declared.Phase.{Phase}
use Rattle.jobs.specs.declared.Phase.TheVariants.{Never, Active, Ended}
use Rattle.dispatch.specs.declared.State.{State}
use Rattle.jobs.specs.declared.Tasks.{Tasks}
use Rattle.dispatch.specs.declared.Ticked.{Ticked}
use Rattle.schedules.specs.Certificate.{Certificate, Timely}
use Rattle.promise.specs.Demand3.{Due}
use Rattle.schedules.specs.Moments as moments
use Rattle.schedules.specs.Moments.{fresh, finished, goes, Reached, start, next}
use Rattle.promise.specs.Requests.{Request, asked, is_accepted, after, reached, tally, named_on, ticks, times_named, finishes}
use Rattle.promise.specs.View.{stage_of, ran_last, moment_of, model_of}
use Rattle.promise.proofs.Accepting.{Passed, tick_says}
use Rattle.promise.proofs.Join.{stages, named_goes, tick_step}
use Rattle.promise.proofs.Rules.{finish_stage}
use Rattle.schedules.proofs.Safe.{inv_reached, in_time, never_late}
use Rattle.schedules.proofs.Stage.{Good}
use Rattle.schedules.proofs.Since.{one, Why, Since, since_tick, since_release}
use Rattle.promise.proofs.Sound.{piece_fits_lem, sound, within_cost, full_cost}

-- ---- one request
-- the request has passed every test of an accepted tick in s
abbrev pub Passes : Plan → State → Request → Type 0
Passes p s q = Passed p s q.finished q.released

-- the state after a request that is accepted in s
abbrev pub stepped : Plan → State → Request → State
stepped p s q = next_state p q.finished q.released s

-- what holds of the answer to an accepted request and of a refusal holds of what is answered
pub by_answer : (p : Plan) (s : State) (q : Request) (P : Ticked → Type 0) →
    (Passes p s q → P (answered Accepted s (stepped p s q))) →
    ((r : Refusal) → P (answered (Refused r) s (stepped p s q))) → P (asked p s q)
unfolding tick
by_answer p s q P good bad = go (judged p s q.finished q.released) refl
  where
    go : (a : Answer) → judged p s q.finished q.released ≡ a → P (answered a s (stepped p s q))
    go Accepted e = good (tick_says p s q.finished q.released e)
    go (Refused r) e = bad r

-- ---- lists
pub after_append : (p : Plan) (s : State) (a b : List Request) → after p s (a ++ b) ≡ after p (after p s a) b
unfolding after
after_append p s [] b = refl
after_append p s (q ∷ a) b = after_append p (asked p s q).state a b

-- what each accepted tick keeps, a list of requests keeps
pub after_keeps : (p : Plan) (P : State → Type 0) → ((s : State) (q : Request) → Passes p s q → P s → P (stepped p s q)) → (qs : List Request) (s : State) → P s → P (after p s qs)
unfolding after
after_keeps p P h [] s v = v
after_keeps p P h (q ∷ qs) s v = after_keeps p P h qs (asked p s q).state (by_answer p s q (λ t. P t.state) (λ ok. h s q ok v) (λ r. v))

-- ---- the states that requests lead to from the fresh one
module _ (p : Plan) (c : GoodPlan p) where
  fresh_reached : Reached (model_of p) (moment_of p fresh_state)
  unfolding fresh
  fresh_reached = start (record { stages = λ i h. ap stage_of (replicate_at 64 i no_job); runs = λ i h. any_none p.cores _ (λ x l. ap (λ (r : Runner). names i r) (replicate_at 16 x no_run)) })

  reach_on : (qs : List Request) (s : State) → Reached (model_of p) (moment_of p s) → Reached (model_of p) (moment_of p (after p s qs))
  reach_on = after_keeps p (λ s. Reached (model_of p) (moment_of p s)) (λ s q ok r. next _ _ r (tick_step p c q.finished q.released s ok))

  pub reach : (qs : List Request) → Reached (model_of p) (moment_of p (reached p qs))
  reach qs = reach_on qs fresh_state fresh_reached

  -- ---- a job since its release
  module _ (limit : ℕ → ℕ) (C : Certificate (model_of p) limit) (short : Timely (model_of p) limit (λ i. (task_of p i).deadline)) where
    abbrev Grown : (i x f w : ℕ) → State → Type 0
    Grown i x f w s = Since (model_of p) (λ i. (task_of p i).cost) i x f w (stage_of (job_of s i))

    grown_same : (i : ℕ) {x x' f f' w w' : ℕ} (s : State) → x ≡ x' → f ≡ f' → w ≡ w' → Grown i x f w s → Grown i x' f' w' s
    grown_same i s a b d v = rw (← a, ← b, ← d) v

    -- what the promise's own tick says of task i, the dispatcher's tick says
    grown_by : (i x f w : ℕ) → i < p.count → (s : State) (q : Request) (ok : Passes p s q) →
        Since (model_of p) (λ i. (task_of p i).cost) i x f (w + one (goes (model_of p) (stages p c q.finished q.released s ok) i)) ((moments.tick (model_of p) (member q.finished) (member q.released) (moment_of p s)).stage i) → Grown i x f (w + one (ran_last p (stepped p s q) i)) (stepped p s q)
    grown_by i x f w h s q ok v = rw ((tick_step p c q.finished q.released s ok).agree.stages i h, named_goes p c q.finished q.released s ok i h) v

    steady : (i : ℕ) → i < p.count → (s : State) → Reached (model_of p) (moment_of p s) → Good (model_of p) i (stage_of (job_of s i))
    steady i h s r = (inv_reached (model_of p) (sound p c) limit C (moment_of p s) r).fit.good i h

    -- one accepted tick more
    grown_tick : (i x f w : ℕ) → i < p.count → (s : State) (q : Request) → Reached (model_of p) (moment_of p s) → Passes p s q → x < (task_of p i).period → Grown i x f w s → Grown i (suc x) (f + one (member q.finished i)) (w + one (ran_last p (stepped p s q) i)) (stepped p s q)
    grown_tick i x f w h s q r ok l v = grown_by i _ _ w h s q ok (since_tick (model_of p) (sound p c) (λ i. (task_of p i).cost) (within_cost p c) (full_cost p c) i h (member q.finished) (member q.released) (moment_of p s) (tick_step p c q.finished q.released s ok).accepted (steady i h s r) x f w l v)

    grown_release : (i : ℕ) → i < p.count → (s : State) (q : Request) → Reached (model_of p) (moment_of p s) → Passes p s q → member q.released i ≡ true → Grown i 1 0 (0 + one (ran_last p (stepped p s q) i)) (stepped p s q)
    grown_release i h s q r ok m = grown_by i _ _ 0 h s q ok (since_release (model_of p) (sound p c) (λ i. (task_of p i).cost) (within_cost p c) (full_cost p c) i h (member q.finished) (member q.released) (moment_of p s) (tick_step p c q.finished q.released s ok).accepted (steady i h s r) (omega (arith, c.table.values i h)) m)

    -- a list of requests more
    grown_after : (i : ℕ) → i < p.count → (qs : List Request) (s : State) (x f w : ℕ) → Reached (model_of p) (moment_of p s) → x + ticks p s qs ≤ (task_of p i).period → Grown i x f w s → Grown i (x + ticks p s qs) (f + finishes i p s qs) (w + times_named i p s qs) (after p s qs)
    unfolding after tally
    grown_after i h [] s x f w r l v = rw (add-zero x, add-zero f, add-zero w) v
    grown_after i h (q ∷ qs) s x f w r l v = by_answer p s q
        (λ t. x + (cond (is_accepted t.answer && true) 1 0 + ticks p t.state qs) ≤ (task_of p i).period →
        Grown i (x + (cond (is_accepted t.answer && true) 1 0 + ticks p t.state qs)) (f + (cond (is_accepted t.answer && member q.finished i) 1 0 + finishes i p t.state qs)) (w + (cond (is_accepted t.answer && any p.cores (λ y. names i (named_on t y))) 1 0 + times_named i p t.state qs)) (after p t.state qs))
        (λ ok l. grown_same i (after p (stepped p s q) qs) (omega arith) (omega arith) (omega arith) (grown_after i h qs (stepped p s q) (suc x) (f + one (member q.finished i)) (w + one (ran_last p (stepped p s q) i)) (next _ _ r (tick_step p c q.finished q.released s ok)) (omega arith) (grown_tick i x f w h s q r ok (omega arith) v)))
        (λ z l. grown_same i (after p s qs) (omega arith) (omega arith) (omega arith) (grown_after i h qs s x f w r (omega arith) v)) l

    -- a task's pieces fit into its deadline
    whole : (k : ℕ) → k < p.placed → (model_of p).off k + (piece_of p k).cost ≤ (task_of p (piece_of p k).task.0).deadline
    whole k h = omega (arith, within_cost p c k h, c.table.values _ (piece_fits_lem p c k h).task)

    -- a job that is as old as its deadline has ended
    old_ended : (i f w : ℕ) → i < p.count → (t : State) → Reached (model_of p) (moment_of p t) → Grown i (task_of p i).deadline f w t → ((job_of t i).phase ≡ Ended) × Why (task_of p i).cost f w
    old_ended i f w h t r v = go (job_of t i).phase refl
      where
        go : (x : Phase) → (job_of t i).phase ≡ x → ((job_of t i).phase ≡ Ended) × Why (task_of p i).cost f w
        go Never e = absurd (rw e at v)
        go Ended e = let u : ((job_of t i).age ≡ (task_of p i).deadline) × Why (task_of p i).cost f w = rw e at v in (e, u.1)
        go Active e =
            let u : ((job_of t i).age ≡ (task_of p i).deadline) × (w ≡ (model_of p).off (job_of t i).piece + (job_of t i).ran) = rw e at v in
            absurd (omega (arith, u.0, in_time (model_of p) (sound p c) limit C (λ i. (task_of p i).deadline) whole short (moment_of p t) r i h (job_of t i).age (job_of t i).piece (job_of t i).ran (rw e)))

    pub due_over : (before : List Request) (q : Request) (later : List Request) (i : ℕ) → Due p before q later i →
        ((job_of (after p (reached p before) (q ∷ later)) i).phase ≡ Ended) × Why (task_of p i).cost (finishes i p (asked p (reached p before) q).state later) (times_named i p (reached p before) (q ∷ later))
    unfolding after tally
    due_over before q later i d = by_answer p s q
        (λ t. is_accepted t.answer ≡ true → cond (is_accepted t.answer && true) 1 0 + ticks p t.state later ≡ (task_of p i).deadline →
        ((job_of (after p t.state later) i).phase ≡ Ended) × Why (task_of p i).cost (finishes i p t.state later) (cond (is_accepted t.answer && any p.cores (λ y. names i (named_on t y))) 1 0 + times_named i p t.state later))
        yield
        (λ z a. clash refl (sym a)) d.accepted d.over
      where
        s : State
        s = reached p before

        n : State
        n = stepped p s q

        yield : Passes p s q → true ≡ true → 1 + ticks p n later ≡ (task_of p i).deadline → ((job_of (after p n later) i).phase ≡ Ended) × Why (task_of p i).cost (finishes i p n later) (one (ran_last p n i) + times_named i p n later)
        yield ok a e =
            let r : Reached (model_of p) (moment_of p n) = next _ _ (reach before) (tick_step p c q.finished q.released s ok) in
            old_ended i _ _ d.task (after p n later) (reach_on later n r) (grown_same i (after p n later) e (omega arith) (omega arith) (grown_after i d.task later n 1 0 (0 + one (ran_last p n i)) r (omega (arith, e, c.table.values i d.task)) (grown_release i d.task s q (reach before) ok d.released)))

    -- ---- rule 2 marks no job
    none_turns : (s : State) (fs : Tasks) → Reached (model_of p) (moment_of p s) → (i : ℕ) → i < p.count → turns_late p i (job_of (finish p fs s) i) ≡ false
    unfolding finished
    none_turns s fs r i h = go (job_of (finish p fs s) i).phase refl
      where
        go : (x : Phase) → (job_of (finish p fs s) i).phase ≡ x → turns_late p i (job_of (finish p fs s) i) ≡ false
        go Never e = rw e
        go Ended e = rw e
        go Active e = rw e (not_first _ (ne_eqb (job_of (finish p fs s) i).age (task_of p i).deadline (λ q. omega (arith, young))))
          where
            young : (job_of (finish p fs s) i).age < (task_of p i).deadline
            young = never_late (model_of p) (sound p c) limit C (λ i. (task_of p i).deadline) whole short (moment_of p s) r (member fs) i h (job_of (finish p fs s) i).age (job_of (finish p fs s) i).piece (job_of (finish p fs s) i).ran (sym (finish_stage p c fs s i h) ∙ rw e)

    late_same : (s : State) (q : Request) → Reached (model_of p) (moment_of p s) → (stepped p s q).late ≡ total s.late 0
    unfolding next_state age count_preempted run release mark_late finish each_job count
    late_same s q r = ap (total s.late) (sum_none p.count _ (λ i h. ap one (none_turns s q.finished r i h)))

    pub none_late : (qs : List Request) → (reached p qs).late ≡ 0
    none_late qs = (after_keeps p (λ s. Reached (model_of p) (moment_of p s) × (s.late ≡ 0))
        (λ s q ok v. (next _ _ v.0 (tick_step p c q.finished q.released s ok), late_same s q v.0 ∙ ap (λ (l : ℕ). total l 0) v.1)) qs fresh_state (fresh_reached, refl)).1
