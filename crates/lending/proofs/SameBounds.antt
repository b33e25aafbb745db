-- Two plans that agree up to their counts get the same bounds; so the bound over a lent list is the one over a plan's own.
use mathlib.Core.Path.{◌≡◌, refl, sym, ◌∙◌}
use mathlib.Core.List.{List}
use mathlib.Core.Bool.{cond}
use Prim.Native.Nat.{ℕ, ◌<◌}
use native.Mathlib.Decide.{dec_lt}
use native.Mathlib.Omega.{arith}
use Rattle.tasks.specs.Tables.{SameTable}
use Rattle.tasks.specs.Answers.{Answer, Accepted, Refused}
use Rattle.tasks.specs.declared.Table.{Table}
use Rattle.tasks.proofs.Below.{sum_same}
use Rattle.bounds.specs.Asking.{bound_asked}
use Rattle.bounds.specs.Bound.{local_deadline, load, bound}
use Rattle.plans.specs.Interference.{interference}
use Rattle.plans.specs.Pieces.{task_of, piece_of, SamePlan}
use Rattle.plans.specs.Rank.{above}
use Rattle.plans.specs.Shape.{checked_plan}
use Rattle.plans.specs.declared.Piece.{Piece}
use Rattle.plans.specs.declared.Plan.{Plan}
use Rattle.plans.proofs.InShape.{accepted_plan, fits}
use Rattle.bounds.proofs.Accepted.{asked_refused, asked_past, asked_known}
use Rattle.plans.proofs.SamePlans.{costs_same, checked_same}
use Rattle.lending.specs.Lent.{lent_plan, bound_lent}

module _ (a b : Plan) (e : SamePlan a b) (q : ℕ) where
  module _ (accepted : checked_plan a ≡ Accepted) (inside : q < a.placed) where
    -- the tasks of the pieces are the same
    tasks_same : (j : ℕ) → j < a.placed → task_of a (piece_of b j).task.0 ≡ task_of b (piece_of b j).task.0
    tasks_same j l =
        let t : (piece_of a j).task.0 < a.count = (fits a.cores a.count (task_of a) (piece_of a) a.placed (accepted_plan a accepted).shaped j l).task in
        e.tasks _ (rw (e.pieces j l) at t)

    deadline_same : local_deadline (task_of a) (piece_of a) q ≡ local_deadline (task_of b) (piece_of b) q
    unfolding local_deadline
    deadline_same = rw (e.pieces q inside, costs_same (piece_of a) (piece_of b) a.placed e.pieces (piece_of b q).task.0 q (omega arith), tasks_same q inside)

    term_same : (j : ℕ) → j < a.placed → (L : ℕ)
        → cond (above (task_of a) (piece_of a j) (piece_of a q)) (interference (piece_of a j).cost (task_of a (piece_of a j).task.0).period L) 0
        ≡ cond (above (task_of b) (piece_of b j) (piece_of b q)) (interference (piece_of b j).cost (task_of b (piece_of b j).task.0).period L) 0
    unfolding above
    term_same j l L = rw (e.pieces j l, e.pieces q inside, tasks_same j l, tasks_same q inside)

    bound_same : bound (task_of a) (piece_of a) a.placed q ≡ bound (task_of b) (piece_of b) b.placed q
    unfolding bound load
    bound_same = rw (deadline_same, sum_same a.placed _ _ (λ j l. term_same j l (local_deadline (task_of b) (piece_of b) q)), e.pieces q inside, e.placed)

  pub asked_same : bound_asked a q ≡ bound_asked b q
  asked_same = go (checked_plan a) refl (dec_lt q a.placed)
    where
      go : (x : Answer) → checked_plan a ≡ x → Dec (q < a.placed) → bound_asked a q ≡ bound_asked b q
      go (Refused r) c d = asked_refused a q r c ∙ sym (asked_refused b q r (sym (checked_same a b e) ∙ c))
      go Accepted c (no d) = asked_past a q c (omega arith) ∙ sym (asked_past b q (sym (checked_same a b e) ∙ c) (omega (arith, e.placed)))
      go Accepted c (yes d) =
          asked_known a q c d ∙ rw (bound_same c d, deadline_same c d) (sym (asked_known b q (sym (checked_same a b e) ∙ c) (omega (arith, e.placed))))

-- tables that are the same give the same bounds over a lent list
pub lent_same : (t u : Table) (ys : List Piece) (q : ℕ) → SameTable t u → bound_lent t ys q ≡ bound_lent u ys q
unfolding bound_lent
lent_same t u ys q e = asked_same (lent_plan t ys) (lent_plan u ys) (record { cores = e.cores; count = e.count; tasks = e.tasks; placed = refl; pieces = λ j l. refl }) q

-- what a plan with the same table and the same pieces in its own array gives, the lent list gives
pub lent_flat : (t : Table) (ys : List Piece) (p : Plan) (q : ℕ) → SamePlan (lent_plan t ys) p → bound_lent t ys q ≡ bound_asked p q
unfolding bound_lent
lent_flat t ys p q e = asked_same (lent_plan t ys) p e q
