-- Records that agree up to their counts get answers that agree.
use mathlib.Core.Path.{◌≡◌, refl, sym, ap, ◌∙◌}
use mathlib.Core.Bool.{Bool, true, false, not, ◌&&◌, cond}
use mathlib.Core.List.{List}
use Prim.Native.Nat.{ℕ, zero, suc, ◌≤◌, ◌<◌}
use native.Mathlib.Decide.{dec_lt}
use native.Mathlib.Nat.{le_refl}
use native.Mathlib.Omega.{arith}
use lib.Dec.{ltb, eqb}
use lib.ListN.{get_or}
use borrow.Author.Tests.{le-ltb}
use Rattle.tasks.specs.Below.{any, padded}
use Rattle.tasks.specs.Answers.{Accepted}
use Rattle.tasks.specs.declared.Refusal.{Refusal}
use Rattle.tasks.specs.declared.Refusal.TheVariants.{NotRun, TooSoon, StillActive}
use Rattle.tasks.specs.declared.TaskNo.{TaskNo}
use Rattle.tasks.proofs.Below.{all_same, any_same, first_same, count_same}
use Rattle.tasks.proofs.Padded.{padded_same}
use Rattle.tasks.proofs.Answers.{accepted_not}
use Rattle.plans.specs.Pieces.{task_of, piece_of, SamePlan}
use Rattle.plans.specs.Rank.{above}
use Rattle.plans.specs.declared.Piece.{Piece}
use Rattle.plans.specs.declared.Plan.{Plan}
use Rattle.jobs.specs.Jobs.{no_job, no_run, by_runner, once_released, names, Runner, Idle, Runs}
use Rattle.dispatch.specs.States.{job_of, last_of, SameState, well_made}
use Rattle.dispatch.specs.Refusing.{not_run, too_soon, still_active, lowest, judged_sets}
use Rattle.dispatch.specs.Tick.{judged, answered, tick}
use Rattle.dispatch.specs.Rules.{each_job, finished_job, finish, turns_late, marked_job, mark_late, first_piece, released_job, release, piece_at, stands_on, beats, highest, chosen, runs_now, ran_job, run, preempted, count_preempted, aged_job, age}
use Rattle.jobs.specs.Sets.{member, SameSet}
use Rattle.dispatch.specs.Sound.{Sound, AtPieces}
use Rattle.dispatch.specs.Advance.{next_state, checked}
use Rattle.jobs.specs.WellMade.{piece_exists, job_well_made, core_well_made}
use Rattle.jobs.specs.declared.Job.{Job}
use Rattle.dispatch.specs.declared.State.{State}
use Rattle.jobs.specs.declared.Tasks.{Tasks}
use Rattle.dispatch.proofs.Checked.{Good, good, sound}
use Rattle.dispatch.proofs.CheckedTick.{Taken, taken}
use Rattle.dispatch.proofs.Kept.{ready, by_judged}
use Rattle.dispatch.proofs.Steps.{finish_out, ready_pieces}
use Rattle.dispatch.proofs.Highest.{runner_stands}
use Rattle.plans.proofs.SamePlans.{last_same, checked_same}

state_is : (s t : State) → s.jobs ≡ t.jobs → s.last ≡ t.last → s.late ≡ t.late → s.preemptions ≡ t.preemptions → s ≡ t
state_is s t j l n m = let e : ◌≡◌ {A = State} (record { jobs = s.jobs; last = s.last; late = s.late; preemptions = s.preemptions }) (record { jobs = t.jobs; last = t.last; late = t.late; preemptions = t.preemptions }) = rw (j, l, n, m) in e

lowest_same : (u v : Tasks) → SameSet u v → (f g : ℕ → Bool) (say : TaskNo → Refusal) → ((t : ℕ) → f t ≡ g t) → lowest u f say ≡ lowest v g say
unfolding lowest
lowest_same u v sets f g say h = rw (any_same 256 (λ t. member u t && f t) (λ t. member v t && g t) one, first_same 256 (λ t. member u t && f t) (λ t. member v t && g t) one)
  where
    one : (t : ℕ) → t < 256 → member u t && f t ≡ member v t && g t
    one t l = rw (sets t, h t)

module _ (a b : Plan) (plans : SamePlan a b) where
  -- ---- a well made state
  exists_same : (i : ℕ) (j : Job) → piece_exists a i j ≡ piece_exists b i j
  exists_same i j = go (dec_lt j.piece a.placed)
    where
      go : Dec (j.piece < a.placed) → piece_exists a i j ≡ piece_exists b i j
      go (yes l) = rw (plans.pieces j.piece l, plans.placed)
      go (no l) = let h : ltb j.piece a.placed ≡ false = le-ltb j.piece a.placed (omega arith) in rw (h, rw plans.placed at h)

  job_same : (i : ℕ) → i < a.count → (j : Job) → job_well_made a i j ≡ job_well_made b i j
  unfolding job_well_made
  job_same i l j = rw (plans.tasks i l, exists_same i j)

  module _ (s t : State) (states : SameState a s t) where
    core_same : (x : ℕ) → x < a.cores → core_well_made a s.jobs s.last x ≡ core_well_made b t.jobs t.last x
    unfolding core_well_made
    core_same x l = rw (states.last x l) (go (last_of t x))
      where
        task : (k : ℕ) → Dec (k < a.count) → ltb k a.count && once_released (job_of s k).phase ≡ ltb k b.count && once_released (job_of t k).phase
        task k (yes h) = rw (states.jobs k h, plans.count)
        task k (no n) = let h : ltb k a.count ≡ false = le-ltb k a.count (omega arith) in rw (h, rw plans.count at h)

        go : (r : Runner) → by_runner r true (λ k. ltb k a.count && once_released (job_of s k).phase && not (any x (λ y. names k (last_of s y)))) ≡ by_runner r true (λ k. ltb k b.count && once_released (job_of t k).phase && not (any x (λ y. names k (last_of t y))))
        go Idle = refl
        go (Runs u) = rw (task u.0 (dec_lt u.0 a.count), any_same x (λ y. names u.0 (last_of s y)) (λ y. names u.0 (last_of t y)) (λ y h. ap (names u.0) (states.last y (omega arith))))

    made_same : well_made a s ≡ well_made b t
    unfolding well_made
    made_same = rw (all_same a.count (λ i. job_well_made a i (job_of s i)) (λ i. job_well_made b i (job_of t i)) (λ i l. job_same i l (job_of s i) ∙ ap (job_well_made b i) (states.jobs i l)), all_same a.cores (core_well_made a s.jobs s.last) (core_well_made b t.jobs t.last) core_same, plans.count, plans.cores)

  -- ---- the rules: two states whose jobs are the same, and whose cores and totals are the same for the plan
  record Alike (s t : State) : Type 0 where
    jobs : s.jobs ≡ t.jobs
    last : (x : ℕ) → x < a.cores → last_of s x ≡ last_of t x
    late : s.late ≡ t.late
    preemptions : s.preemptions ≡ t.preemptions

  each_same : (f g : ℕ → Job → Job) (s t : State) → ((i : ℕ) → i < a.count → f i (job_of s i) ≡ g i (job_of t i)) → (each_job a f s).jobs ≡ (each_job b g t).jobs
  unfolding each_job
  each_same f g s t h = padded_same 64 no_job a.count (λ i. f i (job_of s i)) (λ i. g i (job_of t i)) h ∙ ap (λ (n : ℕ). padded 64 n no_job (λ i. g i (job_of t i))) plans.count

  finish_same : (fs gs : Tasks) → SameSet fs gs → (s t : State) → SameState a s t → Alike (finish a fs s) (finish b gs t)
  unfolding finish each_job
  finish_same fs gs sets s t e = record {
    jobs = each_same (finished_job fs) (finished_job gs) s t (λ i l. rw (sets i, e.jobs i l));
    last = e.last;
    late = e.late;
    preemptions = e.preemptions;
  }

  module _ (s t : State) (e : Alike s t) where
    job_of_lem : (i : ℕ) → job_of s i ≡ job_of t i
    job_of_lem i = ap (λ (js : List Job). get_or js i no_job) e.jobs

    mark_same : Alike (mark_late a s) (mark_late b t)
    unfolding mark_late
    mark_same = record {
      jobs = each_same (marked_job a) (marked_job b) s t (λ i l. rw (job_of_lem i, plans.tasks i l));
      last = e.last;
      late = rw (e.late, count_same a.count (λ i. turns_late a i (job_of s i)) (λ i. turns_late b i (job_of t i)) (λ i l. rw (job_of_lem i, plans.tasks i l)), plans.count);
      preemptions = e.preemptions;
    }

    release_same : (rs us : Tasks) → SameSet rs us → Alike (release a rs s) (release b us t)
    unfolding release each_job first_piece
    release_same rs us sets = record {
      jobs = each_same (released_job a rs) (released_job b us) s t (λ i l. rw (sets i, job_of_lem i, first_same a.placed (λ j. eqb (piece_of a j).task.0 i) (λ j. eqb (piece_of b j).task.0 i) (λ j k. ap (λ (z : Piece). eqb z.task.0 i) (plans.pieces j k)), plans.placed));
      last = e.last;
      late = e.late;
      preemptions = e.preemptions;
    }

    age_same : (age a s).jobs ≡ (age b t).jobs
    unfolding age
    age_same = each_same (aged_job a) (aged_job b) s t (λ i l. rw (job_of_lem i, plans.tasks i l))

    module _ (sound : Sound a) (placed : AtPieces a s) where
      piece_same : (i : ℕ) → i < a.count → piece_at a s i ≡ piece_at b t i
      piece_same i l = plans.pieces (job_of s i).piece (placed i l) ∙ ap (λ (j : Job). piece_of b j.piece) (job_of_lem i)

      above_same : (i k : ℕ) → i < a.count → k < a.count → above (task_of a) (piece_at a s i) (piece_at a s k) ≡ above (task_of b) (piece_at b t i) (piece_at b t k)
      unfolding above
      above_same i k l h = rw (plans.tasks (piece_at a s i).task.0 (sound.tasks (job_of s i).piece (placed i l)), plans.tasks (piece_at a s k).task.0 (sound.tasks (job_of s k).piece (placed k h)), piece_same i l, piece_same k h)

      stands_same : (x i : ℕ) → i < a.count → stands_on a s x i ≡ stands_on b t x i
      stands_same x i l = rw (piece_same i l, job_of_lem i)

      highest_same : (x k : ℕ) → k ≤ a.count → highest a s x k ≡ highest b t x k
      unfolding highest
      highest_same x zero l = refl
      highest_same x (suc k) l = rw (stands_same x k l, best (highest a s x k) refl, highest_same x k (omega arith))
        where
          best : (r : Runner) → highest a s x k ≡ r → beats a s k r ≡ beats b t k r
          best Idle h = refl
          best (Runs u) h = above_same k u.0 l (omega (arith, (runner_stands a s x k u h).0))

      ran_same : (j : Job) → j.piece < a.placed → ran_job a j ≡ ran_job b j
      ran_same j l = rw (plans.pieces j.piece l, last_same (piece_of a) (piece_of b) a.placed plans.pieces j.piece l, plans.placed)

      step_same : (i : ℕ) → i < a.count → cond (runs_now a s i) (ran_job a (job_of s i)) (job_of s i) ≡ cond (runs_now b t i) (ran_job b (job_of t i)) (job_of t i)
      step_same i l = rw (ran_same (job_of s i) (placed i l), highest_same (piece_at a s i).core.0 a.count (le_refl _), piece_same i l, job_of_lem i, plans.count)

      run_jobs : (run a s).jobs ≡ (run b t).jobs
      unfolding run
      run_jobs = each_same (λ i j. cond (runs_now a s i) (ran_job a j) j) (λ i j. cond (runs_now b t i) (ran_job b j) j) s t step_same

      run_last : (run a s).last ≡ (run b t).last
      unfolding run
      run_last = padded_same 16 no_run a.cores (chosen a s) (chosen b t) (λ x l. ap (λ (r : Runner). r) (highest_same x a.count (le_refl _) ∙ ap (highest b t x) plans.count)) ∙ ap (λ (n : ℕ). padded 16 n no_run (chosen b t)) plans.cores

      run_same : Alike (run a s) (run b t)
      unfolding run
      run_same = record {
        jobs = run_jobs;
        last = λ x l. ap (λ (cs : List Runner). (get_or cs x no_run)) run_last;
        late = e.late;
        preemptions = e.preemptions;
      }

  preempted_same : (s t n m : State) → Alike s t → Alike n m → (count_preempted a s n).preemptions ≡ (count_preempted b t m).preemptions
  unfolding count_preempted preempted
  preempted_same s t n m e f = rw (f.preemptions, count_same a.cores (preempted s n) (preempted t m) (λ x l. one x l), plans.cores)
    where
      one : (x : ℕ) → x < a.cores → preempted s n x ≡ preempted t m x
      one x l = rw (e.last x l, f.last x l, e.jobs)

  counted_same : (s t n m : State) → Alike s t → Alike n m → Alike (count_preempted a s n) (count_preempted b t m)
  unfolding count_preempted
  counted_same s t n m e f = record {
    jobs = f.jobs;
    last = f.last;
    late = f.late;
    preemptions = preempted_same s t n m e f;
  }

  counted_last : (s t n m : State) → n.last ≡ m.last → (count_preempted a s n).last ≡ (count_preempted b t m).last
  unfolding count_preempted
  counted_last s t n m h = h

  aged_same : (s t : State) → Alike s t → s.last ≡ t.last → age a s ≡ age b t
  unfolding age each_job
  aged_same s t e h = state_is (age a s) (age b t) (age_same s t e) h e.late e.preemptions

  -- ---- the refusals of the sets
  module _ (s t : State) (states : SameState a s t) (fs gs rs us : Tasks) (finished : SameSet fs gs) (released : SameSet rs us) where
    after_same : Alike (finish a fs s) (finish b gs t)
    after_same = finish_same fs gs finished s t states

    run_before : (k : ℕ) → not_run a s k ≡ not_run b t k
    run_before k = rw (any_same a.cores (λ x. names k (last_of s x)) (λ x. names k (last_of t x)) (λ x l. ap (names k) (states.last x l)), plans.cores, plans.count)

    soon_same : (k : ℕ) → too_soon a (finish a fs s) k ≡ too_soon b (finish b gs t) k
    soon_same k = go (dec_lt k a.count)
      where
        go : Dec (k < a.count) → too_soon a (finish a fs s) k ≡ too_soon b (finish b gs t) k
        go (yes l) = rw (job_of_lem (finish a fs s) (finish b gs t) after_same k, plans.tasks k l, plans.count)
        go (no n) = let h : ltb k a.count ≡ false = le-ltb k a.count (omega arith) in rw (h, rw plans.count at h)

    active_same : (k : ℕ) → still_active a (finish a fs s) k ≡ still_active b (finish b gs t) k
    active_same k = go (dec_lt k a.count)
      where
        go : Dec (k < a.count) → still_active a (finish a fs s) k ≡ still_active b (finish b gs t) k
        go (yes l) = rw (job_of_lem (finish a fs s) (finish b gs t) after_same k, plans.tasks k l)
        go (no n) = let h : job_of (finish a fs s) k ≡ no_job = finish_out a fs s k (omega arith) in rw (h, sym (job_of_lem (finish a fs s) (finish b gs t) after_same k) ∙ h)

    sets_same : judged_sets a s fs rs ≡ judged_sets b t gs us
    unfolding judged_sets
    sets_same = rw (lowest_same fs gs finished (not_run a s) (not_run b t) NotRun run_before, lowest_same rs us released (too_soon a (finish a fs s)) (too_soon b (finish b gs t)) TooSoon soon_same, lowest_same rs us released (still_active a (finish a fs s)) (still_active b (finish b gs t)) StillActive active_same)

    pub judged_same : judged a s fs rs ≡ judged b t gs us
    unfolding judged checked
    judged_same = rw (checked_same a b plans, made_same s t states, sets_same)

    -- ---- the next state
    pub next_same : Good a → well_made a s ≡ true → next_state a fs rs s ≡ next_state b gs us t
    unfolding next_state
    next_same g m = aged_same _ _ (counted_same _ _ _ _ after_same ran) (counted_last _ _ _ _ (run_last _ _ ready_same (sound a g) here))
      where
        ready_same : Alike (ready a fs rs s) (ready b gs us t)
        ready_same = release_same (mark_late a (finish a fs s)) (mark_late b (finish b gs t)) (mark_same (finish a fs s) (finish b gs t) after_same) rs us released

        here : AtPieces a (ready a fs rs s)
        here = ready_pieces a g fs rs s m

        ran : Alike (run a (ready a fs rs s)) (run b (ready b gs us t))
        ran = run_same (ready a fs rs s) (ready b gs us t) ready_same (sound a g) here

-- ---- the theorem: the same answer, the same runners, and states that are the same; after an accepted tick everything is equal
module _ (a b : Plan) (s t : State) (fs gs rs us : Tasks) (plans : SamePlan a b) (states : SameState a s t) (finished : SameSet fs gs) (released : SameSet rs us) where
  same_judged : judged a s fs rs ≡ judged b t gs us
  same_judged = judged_same a b plans s t states fs gs rs us finished released

  same_next : judged a s fs rs ≡ Accepted → next_state a fs rs s ≡ next_state b gs us t
  same_next e = let k : Taken a s fs rs = taken a s fs rs e in next_same a b plans s t states fs gs rs us finished released (good a k.plan) k.state

  pub agree_accepted : (tick a s fs rs).answer ≡ Accepted → tick a s fs rs ≡ tick b t gs us
  unfolding tick
  agree_accepted = by_judged a s fs rs (λ r. r.answer ≡ Accepted → r ≡ answered (judged b t gs us) t (next_state b gs us t)) (λ r e h. accepted_not h) (λ e h. rw (← same_judged, e, same_next e))

  pub agree : ((tick a s fs rs).answer ≡ (tick b t gs us).answer) × ((tick a s fs rs).runs ≡ (tick b t gs us).runs) × SameState a (tick a s fs rs).state (tick b t gs us).state
  unfolding tick
  agree = by_judged a s fs rs (λ r. (r.answer ≡ (tick b t gs us).answer) × (r.runs ≡ (tick b t gs us).runs) × SameState a r.state (tick b t gs us).state) (λ r e. rw (← same_judged, e) (refl, refl, states)) (λ e. rw (← same_judged, e, ← same_next e) (refl, refl, record { jobs = λ i l. refl; last = λ x l. refl; late = refl; preemptions = refl }))
