-- An accepted tick of the dispatcher is an accepted tick as the promise sees it.
use mathlib.Core.Path.{◌≡◌, refl, sym, ap, subst, ◌∙◌}
use mathlib.Core.Bool.{Bool, true, false, not, ◌&&◌, cond}
use Prim.Native.Nat.{ℕ, ◌≤◌, ◌<◌}
use native.Mathlib.Decide.{ℕ_discrete}
use native.Mathlib.Nat.{le_refl}
use native.Mathlib.Omega.{arith}
use lib.Dec.{ltb, eqb}
use borrow.Author.Tests.{eq-eqb, ne_eqb, eqb-true, eqb-false, ltb-false, not-false}
use Rattle.tasks.proofs.Below.{any_found, any_make, any_none, any_same, Found}
use Rattle.tasks.proofs.Bools.{both, both_make, clash, neither}
use Rattle.tasks.specs.Below.{any}
use Rattle.plans.proofs.InShape.{GoodPlan}
use Rattle.plans.proofs.Rank.{above_core, above_one_way, above_self}
use Rattle.plans.specs.Pieces.{task_of, piece_of}
use Rattle.plans.specs.Rank.{above}
use Rattle.plans.specs.declared.Piece.{Piece}
use Rattle.plans.specs.declared.Plan.{Plan}
use Rattle.jobs.specs.Jobs.{is_active, once_released, names, Runner, Idle, Runs}
use Rattle.dispatch.specs.States.{job_of}
use Rattle.dispatch.specs.Rules.{piece_at, stands_on, highest, runs_now, finish}
use Rattle.jobs.specs.Sets.{member}
use Rattle.dispatch.specs.Advance.{next_state}
use Rattle.jobs.specs.declared.Job.{Job}
use Rattle.jobs.specs.declared.Phase.{Phase}
use Rattle.jobs.specs.declared.Phase.TheVariants.{Never, Active, Ended}
use Rattle.dispatch.specs.declared.State.{State}
use Rattle.jobs.specs.declared.Tasks.{Tasks}
use Rattle.schedules.specs.Model as model
use Rattle.schedules.specs.Model.{Stage, at, May}
use Rattle.schedules.specs.Moments.{held, goes, goes_at, finished, released, ticked, tick, Accepted, Step}
use Rattle.dispatch.proofs.Kept.{ready, next_last}
use Rattle.promise.specs.View.{stage_of, ran_last, moment_of, model_of}
use Rattle.promise.proofs.Accepting.{Passed}
use Rattle.promise.proofs.Choice.{Picked, Picks, picks_named, highest_picks}
use Rattle.promise.proofs.Rules.{Standing, ready_stood, finish_stage, finish_stood, ready_stage, next_stage, rightly}
use Rattle.promise.proofs.Sound.{piece_fits_lem}

-- two tests that pass together are the same
same_test : (a b : Bool) → (a ≡ true → b ≡ true) → (b ≡ true → a ≡ true) → a ≡ b
same_test true b h k = sym (h refl)
same_test false true h k = k refl
same_test false false h k = refl

-- a job is at piece j only while it is active
at_says : (j : ℕ) (o : Job) → at j (stage_of o) ≡ true → (is_active o.phase ≡ true) × (o.piece ≡ j)
unfolding at
at_says j o h = go o.phase refl
  where
    go : (x : Phase) → o.phase ≡ x → (is_active o.phase ≡ true) × (o.piece ≡ j)
    go Never e = clash refl (sym (rw e at h))
    go Ended e = clash refl (sym (rw e at h))
    go Active e = (rw e, eqb-true _ _ (rw e at h))

at_make : (o : Job) → is_active o.phase ≡ true → at o.piece (stage_of o) ≡ true
unfolding at
at_make o h = go o.phase refl
  where
    go : (x : Phase) → o.phase ≡ x → at o.piece (stage_of o) ≡ true
    go Never e = clash refl (sym (rw e at h))
    go Ended e = clash refl (sym (rw e at h))
    go Active e = rw e (eq-eqb o.piece _ refl)

module _ (p : Plan) (c : GoodPlan p) (t : State) (stood : (i : ℕ) → i < p.count → is_active (job_of t i).phase ≡ true → Standing p i (job_of t i)) where
  -- the task picked on the core of task i's piece
  picks : (x : ℕ) → Picks p t x p.count (highest p t x p.count)
  picks x = highest_picks p t (λ i h a. (stood i h a).own) x p.count (le_refl _)

  -- a task that is named on core x is active at a piece there
  pub named_stands : (x i : ℕ) → names i (highest p t x p.count) ≡ true → (i < p.count) × (is_active (job_of t i).phase ≡ true) × ((piece_at p t i).core.0 ≡ x)
  named_stands x i e =
      let k : Picked p t x p.count i = picks_named p t x p.count i (highest p t x p.count) (picks x) e in
      let u : (is_active (job_of t i).phase ≡ true) × (eqb (piece_at p t i).core.0 x ≡ true) = both {a = is_active (job_of t i).phase} k.stands in
      (k.below, u.0, eqb-true _ _ u.1)

  -- it is named on some core if and only if it runs
  pub named_runs : (i : ℕ) → i < p.count → any p.cores (λ x. names i (highest p t x p.count)) ≡ runs_now p t i
  named_runs i h = same_test _ _ (λ e. from (any_found p.cores (λ x. names i (highest p t x p.count)) e)) into
    where
      from : Found p.cores (λ x. names i (highest p t x p.count)) → runs_now p t i ≡ true
      from f =
          let k : (i < p.count) × (is_active (job_of t i).phase ≡ true) × ((piece_at p t i).core.0 ≡ f.place) = named_stands f.place i f.holds in
          both_make k.1 (rw k.2 f.holds)

      into : runs_now p t i ≡ true → any p.cores (λ x. names i (highest p t x p.count)) ≡ true
      into e =
          let k : (is_active (job_of t i).phase ≡ true) × (names i (highest p t (piece_at p t i).core.0 p.count) ≡ true) = both {a = is_active (job_of t i).phase} e in
          any_make p.cores _ _ (piece_fits_lem p c _ (stood i h k.0).known).core k.1

  module _ (o : ℕ → Stage) (same : (i : ℕ) → i < p.count → o i ≡ stage_of (job_of t i)) where
    -- a piece that a job is at is that job's
    there : (j : ℕ) → j < p.placed → at j (o (piece_of p j).task.0) ≡ true → (is_active (job_of t (piece_of p j).task.0).phase ≡ true) × ((job_of t (piece_of p j).task.0).piece ≡ j)
    there j l e = at_says j (job_of t (piece_of p j).task.0) (rw (same _ (piece_fits_lem p c j l).task) at e)

    -- nothing that a job is at is ranked above the piece of the task that is picked
    pub picked_free : (i : ℕ) → Picked p t (piece_at p t i).core.0 p.count i → held (model_of p) o (job_of t i).piece ≡ false
    unfolding held
    picked_free i k = any_none p.placed _ (λ j l. go j l _ refl)
      where
        go : (j : ℕ) → j < p.placed → (b : Bool) → above (task_of p) (piece_of p j) (piece_at p t i) && at j (o (piece_of p j).task.0) ≡ b → above (task_of p) (piece_of p j) (piece_at p t i) && at j (o (piece_of p j).task.0) ≡ false
        go j l false q = q
        go j l true q = case (ℕ_discrete (piece_of p j).task.0 i)
          where
            u : (above (task_of p) (piece_of p j) (piece_at p t i) ≡ true) × (at j (o (piece_of p j).task.0) ≡ true)
            u = both {a = above (task_of p) (piece_of p j) (piece_at p t i)} q

            w : (is_active (job_of t (piece_of p j).task.0).phase ≡ true) × ((job_of t (piece_of p j).task.0).piece ≡ j)
            w = there j l u.1

            its : piece_at p t (piece_of p j).task.0 ≡ piece_of p j
            its = ap (piece_of p) w.1

            stands : stands_on p t (piece_at p t i).core.0 (piece_of p j).task.0 ≡ true
            stands = both_make w.0 (eq-eqb _ _ (ap (λ (z : Piece). z.core.0) its ∙ above_core (task_of p) (piece_of p j) (piece_at p t i) u.0))

            case : Dec ((piece_of p j).task.0 ≡ i) → above (task_of p) (piece_of p j) (piece_at p t i) && at j (o (piece_of p j).task.0) ≡ false
            case (yes e) = clash u.0 (ap (λ (z : Piece). above (task_of p) z (piece_at p t i)) (sym its ∙ ap (piece_at p t) e) ∙ above_self (task_of p) (piece_at p t i))
            case (no e) = clash u.0 (above_one_way (task_of p) (piece_at p t i) (piece_of p j) (rw its at (k.over _ (piece_fits_lem p c j l).task stands e)))

    -- the piece of a task that is picked holds each other task on its core
    pub picked_holds : (i z : ℕ) → i < p.count → is_active (job_of t i).phase ≡ true → Picked p t (piece_at p t i).core.0 p.count z → (i ≡ z → ⊥) → held (model_of p) o (job_of t i).piece ≡ true
    unfolding held
    picked_holds i z h a k n = any_make p.placed _ (job_of t z).piece own.known (both_make (k.over i h (both_make a (eq-eqb (piece_at p t i).core.0 _ refl)) n) (rw (own.own, same z k.below) (at_make (job_of t z) on)))
      where
        on : is_active (job_of t z).phase ≡ true
        on = (both {a = is_active (job_of t z).phase} k.stands).0

        own : Standing p z (job_of t z)
        own = stood z k.below on

    -- so a job runs if and only if nothing that a job is at is ranked above its piece
    names_free : (i : ℕ) → i < p.count → is_active (job_of t i).phase ≡ true → (r : Runner) → Picks p t (piece_at p t i).core.0 p.count r → names i r ≡ not (held (model_of p) o (job_of t i).piece)
    names_free i h a Idle k = clash (both_make a (eq-eqb (piece_at p t i).core.0 _ refl)) (k i h)
    names_free i h a (Runs z) k = go (ℕ_discrete i z.0)
      where
        go : Dec (i ≡ z.0) → eqb z.0 i ≡ not (held (model_of p) o (job_of t i).piece)
        go (yes e) = eq-eqb _ _ (sym e) ∙ sym (ap not (picked_free i (subst (λ (y : ℕ). Picked p t (piece_at p t i).core.0 p.count y) (sym e) k)))
        go (no e) = ne_eqb _ _ (λ q. e (sym q)) ∙ sym (ap not (picked_holds i z.0 h a k e))

    pub runs_goes : (i : ℕ) → i < p.count → runs_now p t i ≡ goes (model_of p) o i
    unfolding goes goes_at
    runs_goes i h = rw (same i h) (go (job_of t i).phase refl)
      where
        go : (x : Phase) → (job_of t i).phase ≡ x → runs_now p t i ≡ goes_at (model_of p) o (stage_of (job_of t i))
        go Never e = rw e
        go Ended e = rw e
        go Active e = rw e (names_free i h (rw e) (highest p t (piece_at p t i).core.0 p.count) (picks (piece_at p t i).core.0))

module _ (p : Plan) (c : GoodPlan p) (fs rs : Tasks) (s : State) (ok : Passed p s fs rs) where
  -- the jobs from which the runners are chosen
  abbrev pub stages : ℕ → Stage
  stages = released (model_of p) (member rs) (finished (model_of p) (member fs) (moment_of p s).stage)

  pub stood : (i : ℕ) → i < p.count → is_active (job_of (ready p fs rs s) i).phase ≡ true → Standing p i (job_of (ready p fs rs s) i)
  stood i h = ready_stood p c fs rs s i ok.made h

  same : (i : ℕ) → i < p.count → stages i ≡ stage_of (job_of (ready p fs rs s) i)
  unfolding released finished
  same i h = sym (ready_stage p c fs rs s i h)

  -- a released task was never released, or has ended at the age of its period
  may : (i : ℕ) (o : Job) → (is_active o.phase ≡ true → Standing p i o) → (once_released o.phase && ltb o.age (task_of p i).period ≡ false) → is_active o.phase && eqb o.age (task_of p i).period ≡ false → May (model_of p) i (stage_of o)
  may i o st u w = go o.phase refl
    where
      go : (x : Phase) → o.phase ≡ x → May (model_of p) i (stage_of o)
      go Never e = rw e tt
      go Ended e = rw e (ltb-false _ _ (rw e at u))
      go Active e =
          let a : (task_of p i).period ≤ o.age = ltb-false _ _ (rw e at u) in
          let q : o.age ≡ (task_of p i).period = omega (arith, (st (rw e)).young) in
          absurd (eqb-false _ _ (rw e at w) q)

  accepts : Accepted (model_of p) (member fs) (member rs) (moment_of p s)
  unfolding finished
  accepts = record {
    ended = λ i h m. (both {a = ltb i p.count} (not-false _ (ok.ran i (omega (arith, c.table.tasks.1)) m))).1;
    begun = begun;
  }
    where
      begun : (i : ℕ) → i < p.count → member rs i ≡ true → May (model_of p) i (cond (member fs i) (model.finish (stage_of (job_of s i))) (stage_of (job_of s i)))
      begun i h m = rw (← finish_stage p c fs s i h) (may i (job_of (finish p fs s) i) (finish_stood p c fs s i ok.made h) (neither {a = not (ltb i p.count)} (ok.old i (omega (arith, c.table.tasks.1)) m)).1 (ok.over i (omega (arith, c.table.tasks.1)) m))

  -- the tasks named in the answer are those that ran
  pub named_goes : (i : ℕ) → i < p.count → ran_last p (next_state p fs rs s) i ≡ goes (model_of p) stages i
  named_goes i h =
      any_same p.cores _ _ (λ x l. ap (names i) (next_last p (rightly p c) fs rs s x l))
      ∙ named_runs p c (ready p fs rs s) stood i h
      ∙ runs_goes p c (ready p fs rs s) stood stages same i h

  pub tick_step : Step (model_of p) (member fs) (member rs) (moment_of p s) (moment_of p (next_state p fs rs s))
  unfolding tick ticked
  tick_step = record {
    accepted = accepts;
    agree = record {
      stages = λ i h. next_stage p c fs rs s i h ∙ rw (runs_goes p c (ready p fs rs s) stood stages same i h, same i h);
      runs = named_goes;
    };
  }
