-- The three ways in which the plan file of a table file comes out.
use mathlib.Core.Path.{◌≡◌, refl}
use mathlib.Core.List.{List}
use Prim.Native.Nat.{ℕ}
use Rattle.std.specs.Prelude.{Result, Ok, Err}
use Rattle.tasks.specs.declared.Refusal.{Refusal}
use Rattle.tasks.specs.declared.Table.{Table}
use Rattle.plans.specs.declared.Plan.{Plan}
use Rattle.planner.specs.Layout.{planned}
use Rattle.writing.specs.Writing.{plan_written, plan_filled}
use Rattle.planfile.specs.PlanFile.{file_written, file_filled}

module _ (r : Result Table Refusal) (lent : List ℕ) where
  -- the file was refused
  pub not_read : (x : Refusal) → r ≡ Err x → (Err x ≡ file_written r lent) × (lent ≡ file_filled r lent)
  unfolding file_written file_filled
  not_read x h = rw h (refl, refl)

  module _ (t : Table) (good : r ≡ Ok t) where
    -- the table was not placed
    pub not_planned : (x : Refusal) → planned t ≡ Err x → (Err x ≡ file_written r lent) × (lent ≡ file_filled r lent)
    unfolding file_written file_filled
    not_planned x h = rw (good, h) (refl, refl)

    -- its plan was written, or there was no room
    pub was_written : (p : Plan) → planned t ≡ Ok p → (w : Result ℕ Refusal) (bytes : List ℕ) → (w ≡ plan_written p lent) × (bytes ≡ plan_filled p lent) → (w ≡ file_written r lent) × (bytes ≡ file_filled r lent)
    unfolding file_written file_filled
    was_written p h w bytes e = rw (good, h) e
