-- Plans that agree up to their counts have one run at full rate: what stands past a count is not read.
use mathlib.Core.Path.{◌≡◌, refl, ap, ◌∙◌}
use Prim.Native.Nat.{ℕ, zero, suc}
use Rattle.tasks.specs.Answers.{Answer, Accepted, Refused}
use Rattle.plans.specs.Pieces.{SamePlan}
use Rattle.plans.specs.declared.Plan.{Plan}
use Rattle.jobs.specs.declared.Tasks.{Tasks}
use Rattle.dispatch.proofs.Agree.{judged_same, agree_accepted}
use Rattle.dispatch.specs.States.{SameState}
use Rattle.dispatch.specs.Tick.{judged, tick}
use Rattle.dispatch.specs.declared.State.{State}
use Rattle.dispatch.specs.declared.Ticked.{Ticked}
use Rattle.fullrate.specs.Allowed.{no_tasks, allowed_set}
use Rattle.fullrate.specs.FullRate.{full_tick}
use Rattle.fullrate.specs.Watched.{watched_in, watch_tick, watched}
use Rattle.fullrate.specs.declared.Watched.{Watched}
use Rattle.fullrate.proofs.SameSets.{allowed_same}

-- a state is the same as itself
self : (p : Plan) (s : State) → SameState p s s
self p s = record { jobs = λ i l. refl; last = λ x l. refl; late = refl; preemptions = refl }

module _ (a b : Plan) (plans : SamePlan a b) where
  -- a tick from one state, with the same sets, is one tick
  tick_same : (s : State) (fs rs : Tasks) → tick a s fs rs ≡ tick b s fs rs
  unfolding tick
  tick_same s fs rs = go _ refl
    where
      go : (c : Answer) → judged a s fs rs ≡ c → tick a s fs rs ≡ tick b s fs rs
      go (Refused r) e = rw (← judged_same a b plans s s (self a s) fs fs rs rs (λ t. refl) (λ t. refl), e)
      go Accepted e = agree_accepted a b s s fs fs rs rs plans (self a s) (λ t. refl) (λ t. refl) (rw e)

  -- a tick at full rate from one state
  pub full_same : (s : State) → full_tick a s ≡ full_tick b s
  full_same s = tick_same s no_tasks (allowed_set a s) ∙ ap (tick b s no_tasks) (allowed_same a b s s plans (self a s))

  -- and what is seen in it
  watch_same : (w : Watched) → watch_tick a w ≡ watch_tick b w
  unfolding watch_tick
  watch_same w = ap (λ (t : Ticked). watched_in a w.longest t) (full_same w.state) ∙ rw (plans.count, plans.cores)

  -- so the whole run is one, whatever its length
  pub watched_same : (n : ℕ) → watched a n ≡ watched b n
  unfolding watched
  watched_same zero = refl
  watched_same (suc n) = ap (watch_tick a) (watched_same n) ∙ watch_same (watched b n)
