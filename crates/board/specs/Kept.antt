-- A record that is kept over many ticks and stepped where it stands.
use Rattle.std.specs.Prelude.{ℕ, zero, suc}
use Rattle.plans.specs.declared.Plan.{Plan}
use Rattle.dispatch.specs.Tick.{tick}
use Rattle.dispatch.specs.declared.State.{State}
use Rattle.jobs.specs.declared.Tasks.{Tasks}
use Rattle.dispatch.specs.declared.Ticked.{Ticked}
use Rattle.board.specs.Ran.{ran_of}
use Rattle.board.specs.declared.Ran.{Ran}

-- what is finished and released in the next tick, from what was seen so far, the plan and the record; and what is seen with it
module _ {X : Type 0} (finished released : X → Plan → State → Tasks) (see : X → Plan → Ran → State → X) (p : Plan) where
  abbrev asked : X → State → Ticked
  asked x s = tick p s (finished x p s) (released x p s)

  -- one tick more: what was seen, and the record
  abbrev pub kept_once : X → State → X × State
  kept_once x s = (see x p (ran_of (asked x s)) (asked x s).state, (asked x s).state)

  unfoldable pub kept_for : ℕ → X → State → X × State
  kept_for zero x s = (x, s)
  kept_for (suc n) x s = kept_once (kept_for n x s).0 (kept_for n x s).1
