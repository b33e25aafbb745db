-- The check of a plan record accepts exactly the plans of a good table that have the shape in document 01's words, and refuses exactly the others of a good table with 8.
use mathlib.Core.Path.{◌≡◌, refl, sym, ap, ◌∙◌}
use mathlib.Core.Bool.{Bool, true, false}
use Prim.Native.Nat.{ℕ, ◌≤◌, ◌<◌}
use native.Mathlib.Omega.{arith}
use Rattle.tasks.proofs.Answers.{accepted_not, refused_is}
use Rattle.tasks.proofs.Refusals.{refuses_make}
use Rattle.tasks.proofs.Tables.{GoodTable, accepted_good, good_accepted, table_number}
use Rattle.tasks.specs.Refusals.{nothing, number, Refuses}
use Rattle.tasks.specs.Tables.{checked_tasks}
use Rattle.tasks.specs.Answers.{Answer, Accepted, Refused}
use Rattle.tasks.specs.declared.Refusal.TheVariants.{NoPlanShape}
use Rattle.tasks.specs.declared.Task.{Task}
use Rattle.plans.proofs.FromWords.{from_words}
use Rattle.plans.proofs.InShape.{GoodPlan, accepted_plan, plan_accepted}
use Rattle.plans.proofs.Shaped.{tasks_refused, shape_refused}
use Rattle.plans.proofs.ToWords.{to_words}
use Rattle.plans.specs.InWords.{InWords, HasShape}
use Rattle.plans.specs.Pieces.{task_of, piece_of}
use Rattle.plans.specs.Shape.{shape, checked_plan}
use Rattle.plans.specs.declared.Piece.{Piece}
use Rattle.plans.specs.declared.Plan.{Plan}

-- the test of the shape passes exactly for pieces that have it in words, where every c is at least 1
pub shape_in_words : (m count : ℕ) (ts : ℕ → Task) (pc : ℕ → Piece) (n : ℕ) → ((i : ℕ) → i < count → 1 ≤ (ts i).cost) → (shape m count ts pc n ≡ true → InWords m count ts pc n) × (InWords m count ts pc n → shape m count ts pc n ≡ true)
shape_in_words m count ts pc n paid = (to_words m count ts pc n, from_words m count ts pc n paid)

module _ (p : Plan) where
  -- the plan's tasks on its cores are a good table
  abbrev pub OfGoodTable : Type 0
  OfGoodTable = GoodTable p.cores p.count (task_of p)

  -- with a good table, the test is the words
  in_words : OfGoodTable → (shape p.cores p.count (task_of p) (piece_of p) p.placed ≡ true → HasShape p) × (HasShape p → shape p.cores p.count (task_of p) (piece_of p) p.placed ≡ true)
  in_words g = shape_in_words p.cores p.count (task_of p) (piece_of p) p.placed (λ i l. (g.values i l).some)

  -- accepted exactly if the table is good and the shape is there
  pub accepted_in_words : (checked_plan p ≡ Accepted → OfGoodTable × HasShape p) × (OfGoodTable × HasShape p → checked_plan p ≡ Accepted)
  accepted_in_words = (
    (λ h. let g : GoodPlan p = accepted_plan p h in (g.table, (in_words g.table).0 g.shaped)),
    (λ w. plan_accepted p (record { table = w.0; shaped = (in_words w.0).1 w.1 })),
  )

  -- refused with 8, which tells nothing, exactly if the table is good and the shape is not there
  pub refused_in_words : (Refuses (checked_plan p) 8 nothing → OfGoodTable × (HasShape p → ⊥)) × (OfGoodTable × (HasShape p → ⊥) → Refuses (checked_plan p) 8 nothing)
  refused_in_words = ((λ u. (good u _ refl, (λ w. accepted_not (sym u.answer ∙ accepted_in_words.1 (good u _ refl, w))))), (λ w. refuses_make NoPlanShape (shape_refused p (good_accepted _ _ _ w.0) (fails w _ refl))))
    where
      good : Refuses (checked_plan p) 8 nothing → (a : Answer) → checked_tasks p.cores p.count (task_of p) ≡ a → OfGoodTable
      good u Accepted e = accepted_good _ _ _ e
      good u (Refused r) e =
          let q : r ≡ u.refusal = refused_is (sym (tasks_refused p r e) ∙ u.answer) in
          absurd (omega (arith, table_number _ _ _ r e, ap number q, u.numbered))

      fails : OfGoodTable × (HasShape p → ⊥) → (b : Bool) → shape p.cores p.count (task_of p) (piece_of p) p.placed ≡ b → shape p.cores p.count (task_of p) (piece_of p) p.placed ≡ false
      fails w true e = absurd (w.1 ((in_words w.0).0 e))
      fails w false e = e
