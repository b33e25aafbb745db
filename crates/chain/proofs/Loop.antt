-- The loop over the kept record comes to the state that the list of the requests that it asked leads to.
use mathlib.Core.Path.{◌≡◌, refl, sym, ap, ◌∙◌}
use mathlib.Core.List.{[], ◌∷◌}
use Prim.Native.Nat.{ℕ, zero, suc}
use Rattle.plans.specs.declared.Plan.{Plan}
use Rattle.jobs.specs.declared.Tasks.{Tasks}
use Rattle.dispatch.specs.declared.State.{State}
use Rattle.board.specs.Kept.{kept_for}
use Rattle.board.specs.declared.Ran.{Ran}
use Rattle.promise.proofs.Runs.{after_append}
use Rattle.promise.specs.Requests.{Request, after}
use Rattle.chain.specs.Asked.{asks, asked_in}

module _ {X : Type 0} (finished released : X → Plan → State → Tasks) (see : X → Plan → Ran → State → X) (p : Plan) where
  -- after n turns, from any state
  pub kept_after : (n : ℕ) (x : X) (s : State) → (kept_for finished released see p n x s).1 ≡ after p s (asked_in finished released see p n x s)
  unfolding kept_for asked_in after
  kept_after zero x s = refl
  kept_after (suc n) x s =
      let q : Request = asks finished released see p (kept_for finished released see p n x s).0 (kept_for finished released see p n x s).1 in
      ap (λ (u : State). after p u (q ∷ [])) (kept_after n x s) ∙ sym (after_append p s (asked_in finished released see p n x s) (q ∷ []))
