-- A request that releases a task too soon is refused, with 11 for the lowest such task unless 10 comes before it; and 11 tells a task of the plan only then.
use mathlib.Core.Path.{◌≡◌, refl, sym, ap, ◌∙◌}
use mathlib.Core.Logic.{◌⊎◌, inl, inr, ⊎_elim}
use mathlib.Core.Bool.{Bool, true, false, ◌&&◌}
use mathlib.Core.List.{List, [], ◌∷◌}
use mathlib.Core.Option.{Option, none, some}
use Prim.Native.Nat.{ℕ, ◌<◌, min}
use native.Mathlib.Decide.{dec_lt}
use native.Mathlib.Omega.{arith}
use lib.Dec.{ltb}
use borrow.Author.Tests.{lt-ltb, le-ltb, ltb-true, not-true}
use Rattle.tasks.proofs.Answers.{accepted_not, refused_is}
use Rattle.tasks.proofs.Below.{first_holds, first_is}
use Rattle.tasks.proofs.Bools.{clash, both, both_make, not_first, either}
use Rattle.tasks.proofs.Refusals.{refuses_make}
use Rattle.tasks.specs.Below.{any, first}
use Rattle.tasks.specs.Refusals.{task, number, tells, Refuses}
use Rattle.tasks.specs.Tables.{task_no, and_then}
use Rattle.tasks.specs.Answers.{Answer, Accepted, Refused}
use Rattle.tasks.specs.declared.Refusal.{Refusal}
use Rattle.tasks.specs.declared.Refusal.TheVariants.{NotRun, TooSoon, StillActive}
use Rattle.tasks.specs.declared.TaskNo.{TaskNo}
use Rattle.plans.proofs.InShape.{GoodPlan, plan_accepted}
use Rattle.plans.specs.Pieces.{task_of}
use Rattle.plans.specs.declared.Plan.{Plan}
use Rattle.jobs.specs.Jobs.{once_released}
use Rattle.jobs.specs.Sets.{member}
use Rattle.jobs.specs.declared.Job.{Job}
use Rattle.jobs.specs.declared.Phase.{Phase}
use Rattle.jobs.specs.declared.Phase.TheVariants.{Never, Active, Ended}
use Rattle.jobs.specs.declared.Tasks.{Tasks}
use Rattle.dispatch.proofs.Judging.{lowest_names}
use Rattle.dispatch.proofs.Kept.{next_made, fresh_made}
use Rattle.dispatch.specs.Advance.{checked}
use Rattle.dispatch.specs.Refusing.{not_run, too_soon, still_active, lowest, judged_sets}
use Rattle.dispatch.specs.Rules.{finish}
use Rattle.dispatch.specs.States.{job_of, fresh_state, well_made}
use Rattle.dispatch.specs.Tick.{judged, tick}
use Rattle.dispatch.specs.declared.State.{State}
use Rattle.promise.proofs.Ages.{AsOld, Aged, finish_aged, never_aged, release_since}
use Rattle.promise.proofs.Rules.{rightly}
use Rattle.promise.proofs.Runs.{by_answer, after_keeps}
use Rattle.promise.specs.Requests.{Request, asked, is_accepted, accepts, after, reached, tally, ticks, releases}
use Rattle.promise.specs.TooSoon.{LastRelease, AsksSoon, FinishRefused}
use Rattle.promise.specs.View.{stage_of, ran_last}

-- a list of requests has no accepted release of task i, or a last one
last_release : (p : Plan) (i : ℕ) (qs : List Request) (s : State) → (releases i p s qs ≡ 0) ⊎ LastRelease p s qs i
unfolding tally after
last_release p i [] s = inl refl
last_release p i (q ∷ qs) s = go (last_release p i qs (asked p s q).state) (either (accepts p s q && member q.released i))
  where
    go : (releases i p (asked p s q).state qs ≡ 0) ⊎ LastRelease p (asked p s q).state qs i → (accepts p s q && member q.released i ≡ true) ⊎ (accepts p s q && member q.released i ≡ false) → (releases i p s (q ∷ qs) ≡ 0) ⊎ LastRelease p s (q ∷ qs) i
    go (inr r) t = inr (record { before = q ∷ r.before; last = r.last; later = r.later; all = ap (λ (l : List Request). q ∷ l) r.all; accepted = r.accepted; released = r.released; none = r.none })
    go (inl z) (inl t) =
        let b : (accepts p s q ≡ true) × (member q.released i ≡ true) = both {a = accepts p s q} t in
        inr (record { before = []; last = q; later = qs; all = refl; accepted = b.0; released = b.1; none = z })
    go (inl z) (inr t) = inl (rw (t, z))

-- so many ticks ago, and fewer than n
abbrev is_below : Option ℕ → ℕ → Bool
is_below none n = false
is_below (some x) n = ltb x n

-- the test of 11 on a job, by the ticks since its last release
old_below : (p : ℕ) (o : Option ℕ) (j : Job) → AsOld p o (stage_of j) → once_released j.phase && ltb j.age p ≡ is_below o p
old_below p o j v = go o j.phase refl v
  where
    same : (x : ℕ) → j.age ≡ min x p → ltb j.age p ≡ ltb x p
    same x e = on (dec_lt x p)
      where
        on : Dec (x < p) → ltb j.age p ≡ ltb x p
        on (yes l) = let w : j.age ≡ x = omega arith in rw w
        on (no l) = rw (le-ltb x p (omega arith)) (le-ltb j.age p (omega arith))

    go : (o : Option ℕ) (h : Phase) → j.phase ≡ h → AsOld p o (stage_of j) → once_released j.phase && ltb j.age p ≡ is_below o p
    go none Never e v = rw e
    go none Active e v = absurd (rw e at v)
    go none Ended e v = absurd (rw e at v)
    go (some x) Never e v = absurd (rw e at v)
    go (some x) Active e v = rw e (same x (rw e at v))
    go (some x) Ended e v = rw e (same x (rw e at v))

-- what a set is judged to be: no member is bad, or the lowest one that is is refused
data Judged (u : Tasks) (bad : ℕ → Bool) (say : TaskNo → Refusal) : Type 0 where
  passes : lowest u bad say ≡ Accepted → Judged u bad say
  fails : (k : ℕ) → member u k ≡ true → bad k ≡ true → lowest u bad say ≡ Refused (say (task_no k)) → Judged u bad say

-- which of the two it is
judge : (u : Tasks) (bad : ℕ → Bool) (say : TaskNo → Refusal) → Judged u bad say
unfolding lowest
judge u bad say = go (either (any 256 wrong))
  where
    wrong : ℕ → Bool
    wrong k = member u k && bad k

    go : (any 256 wrong ≡ true) ⊎ (any 256 wrong ≡ false) → Judged u bad say
    go (inl e) =
        let f : (first 256 wrong < 256) × (wrong (first 256 wrong) ≡ true) = first_holds 256 wrong e in
        let b : (member u (first 256 wrong) ≡ true) × (bad (first 256 wrong) ≡ true) = both f.1 in
        fails (first 256 wrong) b.0 b.1 (rw e)
    go (inr e) = passes (rw e)

-- a refusal tells one task
task_is : {i k : ℕ} → task i ≡ task k → i ≡ k
task_is e = cc

-- a tick answers what is judged
answer_is : (p : Plan) (s : State) (fs rs : Tasks) (a : Answer) → judged p s fs rs ≡ a → (tick p s fs rs).answer ≡ a
unfolding tick
answer_is p s fs rs Accepted e = rw e
answer_is p s fs rs (Refused r) e = rw e

module _ (p : Plan) (c : GoodPlan p) (qs : List Request) where
  -- the test of 11 after the finishes, by the ticks since the last release
  aged_soon : (fs : Tasks) (i : ℕ) (known : i < p.count) (o : Option ℕ) → Aged p c i known o (reached p qs) → too_soon p (finish p fs (reached p qs)) i ≡ is_below o (task_of p i).period
  aged_soon fs i known o v = rw (lt-ltb i p.count known) (old_below (task_of p i).period o (job_of (finish p fs (reached p qs)) i) (finish_aged p c i known o fs (reached p qs) v))

  module _ (q : Request) where
    -- a task that is released too soon fails it
    soon_test : (i : ℕ) → AsksSoon p qs q i → too_soon p (finish p q.finished (reached p qs)) i ≡ true
    soon_test i a = aged_soon q.finished i a.task (some (ticks p (reached p a.since.before) (a.since.last ∷ a.since.later))) (release_since p c i a.task qs a.since) ∙ lt-ltb _ _ a.few

    -- a task that is released and fails it is released too soon
    test_soon : (i : ℕ) → i < p.count → member q.released i ≡ true → too_soon p (finish p q.finished (reached p qs)) i ≡ true → AsksSoon p qs q i
    test_soon i known m b = go (last_release p i qs fresh_state)
      where
        go : (releases i p fresh_state qs ≡ 0) ⊎ LastRelease p fresh_state qs i → AsksSoon p qs q i
        go (inl z) = clash b (aged_soon q.finished i known none (never_aged p c i known qs z))
        go (inr r) = record { task = known; released = m; since = r; few = ltb-true _ _ (sym (aged_soon q.finished i known (some (ticks p (reached p r.before) (r.last ∷ r.later))) (release_since p c i known qs r)) ∙ b) }

    -- so a task that is released and not too soon passes it
    other_test : (i : ℕ) → i < p.count → member q.released i ≡ true → (AsksSoon p qs q i → ⊥) → too_soon p (finish p q.finished (reached p qs)) i ≡ false
    other_test i known m h = ⊎_elim (λ b. absurd (h (test_soon i known m b))) (λ b. b) (either (too_soon p (finish p q.finished (reached p qs)) i))

    -- it is refused
    pub soon_refused : (i : ℕ) → AsksSoon p qs q i → accepts p (reached p qs) q ≡ false
    soon_refused i a = by_answer p (reached p qs) q (λ t. is_accepted t.answer ≡ false) (λ ok. clash (soon_test i a) (ok.old i (omega (arith, a.task, c.table.tasks)) a.released)) (λ r. refl)

    -- the state is well made
    made : well_made p (reached p qs) ≡ true
    made = after_keeps p (λ s. well_made p s ≡ true) (λ s q ok v. next_made p (rightly p c) q.finished q.released s v) qs fresh_state (fresh_made p)

    -- 10 comes first, or else the answer is what 11 and 12 say
    in_order_lem : judged p (reached p qs) q.finished q.released ≡ and_then (lowest q.finished (not_run p (reached p qs)) NotRun) (and_then (lowest q.released (too_soon p (finish p q.finished (reached p qs))) TooSoon) (lowest q.released (still_active p (finish p q.finished (reached p qs))) StillActive))
    unfolding judged judged_sets checked
    in_order_lem = rw (plan_accepted p c, made)

    -- what 10 says decides if it refuses
    ten_first : (k : ℕ) → lowest q.finished (not_run p (reached p qs)) NotRun ≡ Refused (NotRun (task_no k)) → (asked p (reached p qs) q).answer ≡ Refused (NotRun (task_no k))
    ten_first k e = answer_is p (reached p qs) q.finished q.released _ (in_order_lem ∙ rw e)

    -- what 11 says decides if it refuses and 10 does not
    then_eleven : (k : ℕ) → lowest q.finished (not_run p (reached p qs)) NotRun ≡ Accepted → lowest q.released (too_soon p (finish p q.finished (reached p qs))) TooSoon ≡ Refused (TooSoon (task_no k)) → (asked p (reached p qs) q).answer ≡ Refused (TooSoon (task_no k))
    then_eleven k e f = answer_is p (reached p qs) q.finished q.released _ (in_order_lem ∙ rw (e, f))

    -- what 12 says decides if neither refuses
    then_twelve : lowest q.finished (not_run p (reached p qs)) NotRun ≡ Accepted → lowest q.released (too_soon p (finish p q.finished (reached p qs))) TooSoon ≡ Accepted → (asked p (reached p qs) q).answer ≡ lowest q.released (still_active p (finish p q.finished (reached p qs))) StillActive
    then_twelve e f = answer_is p (reached p qs) q.finished q.released _ (in_order_lem ∙ rw (e, f))

    -- a task of the plan that 10 concerns was run on no core
    idle : (k : ℕ) → not_run p (reached p qs) k ≡ true → k < p.count → ran_last p (reached p qs) k ≡ false
    idle k n l = rw (lt-ltb k p.count l) at (not-true (ltb k p.count && ran_last p (reached p qs) k) n)

    -- it is refused with 11 for the lowest such task, unless 10 comes before it
    pub soon_named : (i : ℕ) → AsksSoon p qs q i → ((k : ℕ) → k < i → AsksSoon p qs q k → ⊥) → Refuses (asked p (reached p qs) q).answer 11 (task i) ⊎ FinishRefused p (reached p qs) q
    soon_named i a lower = go (judge q.finished (not_run p s) NotRun)
      where
        s : State
        s = reached p qs

        bad : ℕ → Bool
        bad = too_soon p (finish p q.finished s)

        below : i < 256
        below = omega (arith, a.task, c.table.tasks)

        fine : (k : ℕ) → k < i → (member q.released k ≡ true) ⊎ (member q.released k ≡ false) → member q.released k && bad k ≡ false
        fine k l (inl m) = rw (m, other_test k (omega (arith, a.task)) m (lower k l))
        fine k l (inr m) = not_first (bad k) m

        elevens : lowest q.released bad TooSoon ≡ Refused (TooSoon (task_no i))
        elevens = sym (lowest_names q.released bad TooSoon i (sym (first_is 256 (λ k. member q.released k && bad k) i below (both_make a.released (soon_test i a)) (λ k l. fine k l (either (member q.released k))))) below)

        go : Judged q.finished (not_run p s) NotRun → Refuses (asked p s q).answer 11 (task i) ⊎ FinishRefused p s q
        go (passes e) = inl (refuses_make (TooSoon (task_no i)) (then_eleven i e elevens))
        go (fails k m n e) = inr (record { named = k; finished = m; idle = idle k n; refuses = refuses_make (NotRun (task_no k)) (ten_first k e) })

    -- and 11 tells a task of the plan only if it is released too soon
    pub soon_only : (i : ℕ) → i < p.count → Refuses (asked p (reached p qs) q).answer 11 (task i) → AsksSoon p qs q i
    soon_only i known u = go (judge q.finished (not_run p s) NotRun) (judge q.released bad TooSoon) (judge q.released (still_active p (finish p q.finished s)) StillActive)
      where
        s : State
        s = reached p qs

        bad : ℕ → Bool
        bad = too_soon p (finish p q.finished s)

        other : (r : Refusal) → (asked p s q).answer ≡ Refused r → number r ≡ 11
        other r e = let w : r ≡ u.refusal = refused_is (sym e ∙ u.answer) in ap number w ∙ u.numbered

        told : (k : ℕ) → (asked p s q).answer ≡ Refused (TooSoon (task_no k)) → k ≡ i
        told k e = let w : TooSoon (task_no k) ≡ u.refusal = refused_is (sym e ∙ u.answer) in task_is (ap tells w ∙ u.telling)

        go : Judged q.finished (not_run p s) NotRun → Judged q.released bad TooSoon → Judged q.released (still_active p (finish p q.finished s)) StillActive → AsksSoon p qs q i
        go (fails k m n e) v w = absurd (omega (arith, other (NotRun (task_no k)) (ten_first k e)))
        go (passes e) (fails k m b f) w = let z : k ≡ i = told k (then_eleven k e f) in test_soon i known (rw z at m) (rw z at b)
        go (passes e) (passes f) (fails k m b g) = absurd (omega (arith, other (StillActive (task_no k)) (then_twelve e f ∙ g)))
        go (passes e) (passes f) (passes g) = accepted_not (sym u.answer ∙ then_twelve e f ∙ g)
