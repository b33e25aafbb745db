-- The turns of a loop that keeps one record and steps it where it stands (`Keeping.antt`), as an invariant says them: what was seen and the record, so far.
use mathlib.Core.Path.{◌≡◌, refl}
use Prim.Native.Nat.{ℕ, ◌+◌}
use native.Mathlib.Numerals.{add-one}
use Rattle.plans.specs.declared.Plan.{Plan}
use Rattle.dispatch.specs.declared.State.{State}
use Rattle.jobs.specs.declared.Tasks.{Tasks}
use Rattle.board.specs.Kept.{kept_for}
use Rattle.board.specs.declared.Ran.{Ran}
use Rattle.board.proofs.Settled.{Stepped}

module _ {X : Type 0} (F R : X → Plan → State → Tasks) (S : X → Plan → Ran → State → X) (p : Plan) (x₀ : X) (s₀ : State) where
  -- what was seen and the record are those of i ticks of the definition
  abbrev pub Kept : ℕ → X → State → Type 0
  Kept i x s = (x ≡ (kept_for F R S p i x₀ s₀).0) × (s ≡ (kept_for F R S p i x₀ s₀).1)

  pub kept_start : Kept 0 x₀ s₀
  unfolding kept_for
  kept_start = (refl, refl)

  -- one turn more, its step being told by the contract of `step`
  pub kept_turn : (i : ℕ) (x y : X) (s t : State) (fs rs : Tasks) (r : Ran) → Kept i x s → fs ≡ F x p s → rs ≡ R x p s → Stepped p s fs rs r t → y ≡ S x p r t → Kept (i + 1) y t
  unfolding kept_for
  kept_turn i x y s t fs rs r k f q h e = rw (add-one, e, h.0, h.1, f, q, k.0, k.1) (refl, refl)
