-- The requests that a loop over the kept record asks, in their order.
use Rattle.std.specs.Prelude.{List, [], ◌∷◌, ◌++◌, ℕ, zero, suc}
use Rattle.plans.specs.declared.Plan.{Plan}
use Rattle.jobs.specs.declared.Tasks.{Tasks}
use Rattle.dispatch.specs.declared.State.{State}
use Rattle.board.specs.Kept.{kept_for}
use Rattle.board.specs.declared.Ran.{Ran}
use Rattle.promise.specs.Requests.{Request}

module _ {X : Type 0} (finished released : X → Plan → State → Tasks) (see : X → Plan → Ran → State → X) (p : Plan) where
  -- what is asked in the tick after x was seen and the record is s
  abbrev pub asks : X → State → Request
  asks x s = record { finished = finished x p s; released = released x p s }

  -- what is asked in the first n turns
  unfoldable pub asked_in : ℕ → X → State → List Request
  asked_in zero x s = []
  asked_in (suc n) x s = asked_in n x s ++ (asks (kept_for finished released see p n x s).0 (kept_for finished released see p n x s).1 ∷ [])
