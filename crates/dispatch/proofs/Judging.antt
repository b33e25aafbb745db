-- The walks that judge the two sets: what is wrong with each task, and the lowest member of a set that is wrong.
use mathlib.Core.Path.{◌≡◌, refl, sym, ap, ◌∙◌}
use mathlib.Core.Bool.{Bool, true, false, not, ◌&&◌, ◌||◌, cond}
use mathlib.Core.List.{List}
use mathlib.Core.Logic.{◌⊎◌, inl, inr}
use Prim.Native.Nat.{ℕ, ◌+◌, ◌%◌, ◌≤◌, ◌<◌, min}
use native.Mathlib.Decide.{ℕ_discrete, dec_lt}
use native.Mathlib.Omega.{arith}
use lib.Dec.{leb, ltb, eqb}
use Rattle.std.proofs.lemmas.List.{length-take}
use lib.ListN.{length, get_or, set, take, get_or-eq_default}
use borrow.Author.Tests.{le-leb, lt-leb, lt-ltb, le-ltb, eq-eqb, ne_eqb}
use Rattle.tasks.specs.Below.{any, first, tabulate}
use Rattle.tasks.specs.Tables.{task_no}
use Rattle.tasks.specs.Answers.{Accepted, Refused}
use Rattle.tasks.specs.declared.Refusal.{Refusal}
use Rattle.tasks.specs.declared.TaskNo.{TaskNo}
use Rattle.tasks.proofs.Below.{Found, any_found, any_make, any_each, any_more, any_none, first_holds, first_none, first_before, first_is, first_same}
use Rattle.tasks.proofs.Bools.{clash, either, not_second, and_true}
use Rattle.tasks.proofs.Padded.{tabulate_at, padded_length, padded_in}
use Rattle.tasks.proofs.Tabulate.{tabulate_same, tabulate_turn}
use Rattle.plans.specs.Pieces.{task_of}
use Rattle.plans.specs.declared.Plan.{Plan}
use Rattle.std.specs.Prelude.{Option, None, Some}
use Rattle.jobs.specs.Jobs.{no_job, no_run, names, is_active, once_released, Idle, Runs, Runner}
use Rattle.dispatch.specs.States.{job_of}
use Rattle.tasks.specs.declared.Refusal.TheVariants.{NotRun, TooSoon, StillActive}
use Rattle.dispatch.specs.Refusing.{not_run, too_soon, still_active, lowest_no, lowest, judged_sets}
use Rattle.dispatch.specs.Rules.{each_job, ended_job, finished_job, finish}
use Rattle.jobs.specs.Sets.{member}
use Rattle.jobs.specs.declared.Job.{Job}
use Rattle.jobs.specs.declared.Phase.{Phase}
use Rattle.jobs.specs.declared.Phase.TheVariants.{Never, Active, Ended}
use Rattle.dispatch.specs.declared.State.{State}
use Rattle.jobs.specs.declared.Tasks.{Tasks}
use Rattle.dispatch.proofs.Steps.{finish_out}
use Rattle.jobs.proofs.Walks.{or_none, or_one}

not_below : (n t : ℕ) → leb n t ≡ not (ltb t n)
not_below n t = go (dec_lt t n)
  where
    go : Dec (t < n) → leb n t ≡ not (ltb t n)
    go (yes b) = rw (lt-leb n t b, lt-ltb t n b)
    go (no b) = rw (le-leb n t (omega arith), le-ltb t n (omega arith))

-- a count above a size reads as that size, where none past it passes
any_read : (size n : ℕ) (f : ℕ → Bool) → ((j : ℕ) → size ≤ j → f j ≡ false) → any (min n size) f ≡ any n f
any_read size n f h = go (either (any n f))
  where
    go : (any n f ≡ true) ⊎ (any n f ≡ false) → any (min n size) f ≡ any n f
    go (inr a) = any_none (min n size) f (λ j l. any_each n f a j (omega arith)) ∙ sym a
    go (inl a) = by (any_found n f a)
      where
        by : Found n f → any (min n size) f ≡ any n f
        by k = within (dec_lt k.place size)
          where
            within : Dec (k.place < size) → any (min n size) f ≡ any n f
            within (yes l) = any_make (min n size) f k.place (omega (arith, k.below)) k.holds ∙ sym a
            within (no l) = clash k.holds (h k.place (omega arith))

-- one core more is one task more that ran, or none
module _ (count : ℕ) (last : List Runner) where
  -- what ran on core x
  abbrev ran_on : ℕ → Runner
  ran_on x = get_or last x no_run

  -- refusal 10, only the first x cores being looked at
  abbrev pub not_run_on : ℕ → ℕ → Bool
  not_run_on x t = not (ltb t count && any x (λ y. names t (ran_on y)))

  pub none_run : (t : ℕ) → t < 256 → true ≡ not_run_on 0 t
  unfolding any
  none_run t l = rw (not_second (ltb t count) {b = false} refl)

  module _ (xs : List Bool) (x : ℕ) (e : xs ≡ tabulate 256 (not_run_on x)) where
    pub run_more : (u : TaskNo) → ran_on x ≡ Runs u → (t : ℕ) → t ≡ u.0 → t < 256 → set xs t (leb count t) ≡ tabulate 256 (not_run_on (x + 1))
    run_more u r t q l =
        tabulate_turn 256 (not_run_on x) (not_run_on (x + 1)) xs t (leb count t) e l
        (rw (any_more, ← or_one (any x (λ y. names t (ran_on y))) {b = names t (ran_on x)} (rw r (eq-eqb u.0 t (sym q))), and_true) (not_below count t))
        (λ i d. rw any_more (ap (λ (z : Bool). not (ltb i count && z)) (or_none (any x (λ y. names i (ran_on y))) {b = names i (ran_on x)} (rw r (ne_eqb u.0 i (λ b. d (sym b ∙ sym q)))))))

    pub run_none : ran_on x ≡ Idle → xs ≡ tabulate 256 (not_run_on (x + 1))
    run_none r = e ∙ tabulate_same 256 (not_run_on x) (not_run_on (x + 1)) false (λ i l. rw any_more (ap (λ (z : Bool). not (ltb i count && z)) (or_none (any x (λ y. names i (ran_on y))) {b = names i (ran_on x)} (rw r))))

  pub run_read : (p : Plan) (s : State) (xs : List Bool) → length last ≡ 16 → p.count ≡ count → s.last ≡ last → xs ≡ tabulate 256 (not_run_on (min p.cores 16)) → (t : ℕ) → t < 256 → get_or xs t false ≡ not_run p s t
  run_read p s xs size h l e t b = rw (e, tabulate_at 256 (not_run_on (min p.cores 16)) t false b, ← h, any_read 16 p.cores (λ y. names t (ran_on y)) past, ← l)
    where
      past : (y : ℕ) → 16 ≤ y → names t (ran_on y) ≡ false
      past y k = let z : get_or last y no_run ≡ no_run = get_or-eq_default last no_run (omega arith) in rw z

-- a job that is finished has the age that it had and was as often released, and it is not active
soon_job : (h : Phase) (m : Bool) (late : Bool) (piece age ran d : ℕ) → let j : Job = record { phase = h; late = late; piece = piece; age = age; ran = ran } in let f : Job = cond (m && is_active h) (ended_job j) j in once_released h && ltb age d ≡ once_released f.phase && ltb f.age d
soon_job Never true late piece age ran d = refl
soon_job Never false late piece age ran d = refl
soon_job Active true late piece age ran d = refl
soon_job Active false late piece age ran d = refl
soon_job Ended true late piece age ran d = refl
soon_job Ended false late piece age ran d = refl

active_job : (h : Phase) (m : Bool) (late : Bool) (piece age ran d : ℕ) → let j : Job = record { phase = h; late = late; piece = piece; age = age; ran = ran } in let f : Job = cond (m && is_active h) (ended_job j) j in is_active h && eqb age d && not m ≡ is_active f.phase && eqb f.age d
active_job Never true late piece age ran d = refl
active_job Never false late piece age ran d = refl
active_job Active true late piece age ran d = not_second (eqb age d) {b = false} refl
active_job Active false late piece age ran d = and_true (eqb age d)
active_job Ended true late piece age ran d = refl
active_job Ended false late piece age ran d = refl

-- refusals 11 and 12 after the finishes
abbrev pub soon_after : Plan → Tasks → State → ℕ → Bool
soon_after p fs s = too_soon p (finish p fs s)

abbrev pub active_after : Plan → Tasks → State → ℕ → Bool
active_after p fs s = still_active p (finish p fs s)

-- they are told of the jobs before the finishes
module _ (p : Plan) (s : State) (fs : Tasks) (t known : ℕ) (ek : known ≡ min p.count 64) where
  finished_is : t < known → job_of (finish p fs s) t ≡ finished_job fs t (job_of s t)
  unfolding finish each_job
  finished_is l = padded_in 64 no_job p.count (λ i. finished_job fs i (job_of s i)) t (omega arith) (omega arith)

  finished_past : known ≤ t → job_of (finish p fs s) t ≡ no_job
  unfolding finish each_job
  finished_past l = go (dec_lt t 64)
    where
      go : Dec (t < 64) → job_of (finish p fs s) t ≡ no_job
      go (yes b) = finish_out p fs s t (omega arith)
      go (no b) = get_or-eq_default (finish p fs s).jobs no_job (omega (arith, padded_length 64 no_job p.count (λ i. finished_job fs i (job_of s i))))

  -- what the walk over the released tasks reads: job and task t, where t numbers some
  module _ (i : ℕ) (ei : i ≡ t % 64) where
    pub soon_read : (once : Bool) → once ≡ once_released (job_of s i).phase → leb p.count t || (ltb t known && once && ltb (job_of s i).age (task_of p i).period) ≡ soon_after p fs s t
    soon_read once eo = rw (eo, not_below p.count t) (ap (λ (z : Bool). not (ltb t p.count) || z) (go (dec_lt t known)))
      where
        go : Dec (t < known) → ltb t known && once_released (job_of s i).phase && ltb (job_of s i).age (task_of p i).period ≡ once_released (job_of (finish p fs s) t).phase && ltb (job_of (finish p fs s) t).age (task_of p t).period
        go (yes l) = let e : i ≡ t = omega arith in rw (e, lt-ltb t known l, finished_is l) (soon_job (job_of s t).phase (member fs t) (job_of s t).late (job_of s t).piece (job_of s t).age (job_of s t).ran (task_of p t).period)
        go (no l) = rw (le-ltb t known (omega arith), finished_past (omega arith))

    pub active_read : (active : Bool) → active ≡ is_active (job_of s i).phase → (ended : List Bool) → ended ≡ tabulate 256 (member fs) → t < 256 → ltb t known && active && eqb (job_of s i).age (task_of p i).period && not (get_or ended t false) ≡ active_after p fs s t
    active_read active ea ended ee b = rw (ea, ee, tabulate_at 256 (member fs) t false b) (go (dec_lt t known))
      where
        go : Dec (t < known) → ltb t known && is_active (job_of s i).phase && eqb (job_of s i).age (task_of p i).period && not (member fs t) ≡ active_after p fs s t
        go (yes l) = let e : i ≡ t = omega arith in rw (e, lt-ltb t known l, finished_is l) (active_job (job_of s t).phase (member fs t) (job_of s t).late (job_of s t).piece (job_of s t).age (job_of s t).ran (task_of p t).period)
        go (no l) = rw (le-ltb t known (omega arith), finished_past (omega arith))

-- one number more that passes
first_with : (n : ℕ) (f g : ℕ → Bool) (t : ℕ) → t < n → ((i : ℕ) → (i ≡ t → ⊥) → f i ≡ g i) → g t ≡ true → min (first n f) t ≡ first n g
first_with n f g t l same e = go (dec_lt (first n f) t)
  where
    before : (j : ℕ) → j < first n f → j < t → g j ≡ false
    before j a b = sym (same j (λ z. omega arith)) ∙ first_before n f j a

    holds : first n f < n → (any n f ≡ true) ⊎ (any n f ≡ false) → f (first n f) ≡ true
    holds b (inl a) = (first_holds n f a).1
    holds b (inr a) = absurd (omega (arith, first_none n f a))

    go : Dec (first n f < t) → min (first n f) t ≡ first n g
    go (yes h) = let m : min (first n f) t ≡ first n f = omega arith in m ∙ sym (first_is n g (first n f) (omega arith) (sym (same (first n f) (λ z. omega arith)) ∙ holds (omega arith) (either (any n f))) (λ j b. before j b (omega arith)))
    go (no h) = let m : min (first n f) t ≡ t = omega arith in m ∙ sym (first_is n g t l e (λ j b. before j (omega arith) b))

-- t is a member, and bad
abbrev wrong : Tasks → (ℕ → Bool) → ℕ → Bool
wrong u bad t = member u t && bad t

-- the lowest of these, or 256
abbrev pub lowest_bad : Tasks → (ℕ → Bool) → ℕ
lowest_bad u bad = first 256 (wrong u bad)

-- the number of a set's member j
abbrev member_at : Tasks → ℕ → ℕ
member_at u j = (get_or u.members j (task_no 0)).0

-- the walk over a set's members
module _ (u : Tasks) (bad : ℕ → Bool) where
  -- t is one of the first k members, and bad
  abbrev wrong_in : ℕ → ℕ → Bool
  wrong_in k t = any k (λ j. eqb (member_at u j) t) && bad t

  -- the lowest of these, or 256
  abbrev pub lowest_of : ℕ → ℕ
  lowest_of k = first 256 (wrong_in k)

  pub lowest_start : 256 ≡ lowest_of 0
  unfolding any
  lowest_start = sym (first_none 256 (wrong_in 0) (any_none 256 (wrong_in 0) (λ j l. refl)))

  pub lowest_turn : (k m t low r : ℕ) (b : Bool) → low ≡ lowest_of k → m ≡ member_at u k → t ≡ m → t < 256 → b ≡ bad t → r ≡ cond b (min low m) low → r ≡ lowest_of (k + 1)
  lowest_turn k m t low r b e a z l w h = go (bad t) refl
    where
      q : t ≡ member_at u k
      q = z ∙ a

      here : r ≡ cond b (min low t) low
      here = h ∙ ap (λ (n : ℕ). cond b (min low n) low) (sym z)

      other : (i : ℕ) → (i ≡ t → ⊥) → wrong_in k i ≡ wrong_in (k + 1) i
      other i d = rw any_more (ap (λ (z : Bool). z && bad i) (or_none (any k (λ j. eqb (member_at u j) i)) (ne_eqb (member_at u k) i (λ z. d (sym z ∙ sym q)))))

      each : bad t ≡ false → (i : ℕ) → Dec (i ≡ t) → wrong_in k i ≡ wrong_in (k + 1) i
      each z i (yes y) = rw (y, not_second (any k (λ j. eqb (member_at u j) t)) z, not_second (any (k + 1) (λ j. eqb (member_at u j) t)) z)
      each z i (no d) = other i d

      go : (v : Bool) → bad t ≡ v → r ≡ lowest_of (k + 1)
      go true z = here ∙ rw (w, z, e) (first_with 256 (wrong_in k) (wrong_in (k + 1)) t l other (rw (any_more, ← or_one (any k (λ j. eqb (member_at u j) t)) (eq-eqb (member_at u k) t (sym q))) z))
      go false z = here ∙ rw (w, z, e) (first_same 256 (wrong_in k) (wrong_in (k + 1)) (λ i y. each z i (ℕ_discrete i t)))

  -- and its end, the members being n of the list
  pub lowest_all : (n k low : ℕ) → length u.members ≡ 64 → n ≡ min u.count 64 → k ≤ length (take n u.members) → length (take n u.members) ≤ k → low ≡ lowest_of k → low ≡ lowest_bad u bad
  unfolding member
  lowest_all n k low size q a b h = let e : k ≡ min u.count 64 = omega (arith, q, a, b, size, length-take n u.members) in h ∙ ap lowest_of e

module _ (u : Tasks) (bad : ℕ → Bool) (say : TaskNo → Refusal) where
  -- the lowest member that is bad is named
  pub lowest_names : (t : ℕ) → t ≡ lowest_bad u bad → t < 256 → Refused (say (task_no t)) ≡ lowest u bad say
  unfolding lowest
  lowest_names t et l = go (either (any 256 (wrong u bad)))
    where
      go : (any 256 (wrong u bad) ≡ true) ⊎ (any 256 (wrong u bad) ≡ false) → Refused (say (task_no t)) ≡ cond (any 256 (wrong u bad)) (Refused (say (task_no (lowest_bad u bad)))) Accepted
      go (inl a) = rw a (ap (λ (k : ℕ). Refused (say (task_no k))) et)
      go (inr a) = absurd (omega (arith, et, first_none 256 (wrong u bad) a))

  -- so a task that was found is the lowest that is refused
  pub lowest_refused : (low : Option TaskNo) → lowest_no low ≡ lowest_bad u bad → (t : TaskNo) → low ≡ Some t → t.0 < 256 → Refused (say t) ≡ lowest u bad say
  lowest_refused low is t e l = lowest_names t.0 (rw e at is) l

  -- and if none was found, none is refused
  pub lowest_accepted : (low : Option TaskNo) → lowest_no low ≡ lowest_bad u bad → low ≡ None → Accepted ≡ lowest u bad say
  unfolding lowest
  lowest_accepted low is e = go (either (any 256 (wrong u bad)))
    where
      et : 256 ≡ lowest_bad u bad
      et = rw e at is

      go : (any 256 (wrong u bad) ≡ true) ⊎ (any 256 (wrong u bad) ≡ false) → Accepted ≡ cond (any 256 (wrong u bad)) (Refused (say (task_no (lowest_bad u bad)))) Accepted
      go (inl a) = absurd (omega (arith, et, (first_holds 256 (wrong u bad) a).0))
      go (inr a) = rw a

-- what was found says what a tick's sets are refused with
module _ (p : Plan) (s : State) (fs rs : Tasks) (ran : Option TaskNo) (er : lowest_no ran ≡ lowest_bad fs (not_run p s)) where
  pub judged_ran : (t : TaskNo) → ran ≡ Some t → t.0 < 256 → Refused (NotRun t) ≡ judged_sets p s fs rs
  unfolding judged_sets
  judged_ran t e l = rw (← lowest_refused fs (not_run p s) (λ u. NotRun u) ran er t e l)

  module _ (none : ran ≡ None) (soon active : Option TaskNo) (es : lowest_no soon ≡ lowest_bad rs (soon_after p fs s)) (ea : lowest_no active ≡ lowest_bad rs (active_after p fs s)) where
    all_ran : Accepted ≡ lowest fs (not_run p s) (λ u. NotRun u)
    all_ran = lowest_accepted fs (not_run p s) (λ u. NotRun u) ran er none

    pub judged_soon : (t : TaskNo) → soon ≡ Some t → t.0 < 256 → Refused (TooSoon t) ≡ judged_sets p s fs rs
    unfolding judged_sets
    judged_soon t e l = rw (← all_ran, ← lowest_refused rs (soon_after p fs s) (λ u. TooSoon u) soon es t e l)

    module _ (late : soon ≡ None) where
      none_soon : Accepted ≡ lowest rs (soon_after p fs s) (λ u. TooSoon u)
      none_soon = lowest_accepted rs (soon_after p fs s) (λ u. TooSoon u) soon es late

      pub judged_active : (t : TaskNo) → active ≡ Some t → t.0 < 256 → Refused (StillActive t) ≡ judged_sets p s fs rs
      unfolding judged_sets
      judged_active t e l = rw (← all_ran, ← none_soon, ← lowest_refused rs (active_after p fs s) (λ u. StillActive u) active ea t e l)

      pub judged_well : active ≡ None → Accepted ≡ judged_sets p s fs rs
      unfolding judged_sets
      judged_well e = rw (← all_ran, ← none_soon, ← lowest_accepted rs (active_after p fs s) (λ u. StillActive u) active ea e)
