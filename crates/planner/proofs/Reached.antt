-- Every draft that the layout of a good table reaches.
use Rattle.std.proofs.lemmas.Option.{same_Some}
use mathlib.Core.Path.{◌≡◌, refl, sym, ◌∙◌, subst}
use mathlib.Core.Bool.{Bool, true, false}
use Rattle.std.specs.Prelude.{Some}
use Prim.Native.Nat.{ℕ, zero, suc, ◌+◌, ◌≤◌, ◌<◌}
use native.Mathlib.Omega.{arith}
use Rattle.tasks.proofs.Below.{first_holds}
use Rattle.tasks.specs.Below.{any, first}
use Rattle.tasks.specs.Tables.{checked_table}
use Rattle.tasks.specs.Answers.{Accepted}
use Rattle.tasks.specs.declared.Table.{Table}
use Rattle.bounds.specs.Leaves.{Moderate}
use Rattle.plans.specs.Pieces.{task_of}
use Rattle.planner.specs.Layout.{start, place, lay_first, laid}
use Rattle.planner.specs.Whole.{takes_whole}
use Rattle.planner.specs.declared.Draft.{Draft}
use Rattle.planner.proofs.Drafts.{LaidBefore, drafted_few, drafted_moderate, start_ready}
use Rattle.planner.proofs.Keeps.{Placed, place_whole, place_shared, lay_last, lay_keeps, laid_is}
use Rattle.planner.proofs.Sharing.{share_ready}
use Rattle.planner.proofs.Wholes.{whole_ready}

-- a task that finds its place leaves a draft with the next task to lay out
pub place_ready : (i : ℕ) (d v : Draft) → LaidBefore i d → i < d.plan.count → place d i ≡ Some v → LaidBefore (suc i) v
place_ready i d v R known e = go _ refl
  where
    go : (b : Bool) → any d.plan.cores (takes_whole d i) ≡ b → LaidBefore (suc i) v
    go true a =
        let f : (first d.plan.cores (takes_whole d i) < d.plan.cores) × (takes_whole d i (first d.plan.cores (takes_whole d i)) ≡ true) = first_holds d.plan.cores (takes_whole d i) a in
        subst (LaidBefore (suc i)) (same_Some _ _ (sym (place_whole d i a) ∙ e)) (whole_ready i d R known _ f.0 f.1)
    go false a = share_ready i d.plan.cores 0 (task_of d.plan i).cost d v R known (R.good.values i known).some (omega arith) (sym (place_shared d i a) ∙ e)

module _ (t : Table) (good : checked_table t ≡ Accepted) where
  pub lay_ready : (i : ℕ) → i ≤ t.count → (d : Draft) → lay_first (start t) i ≡ laid d → LaidBefore i d
  unfolding lay_first start
  lay_ready zero h d e = subst (LaidBefore 0) (laid_is e) (start_ready t good)
  lay_ready (suc i) h d e =
      let p : Placed (start t) i d = lay_last (start t) i d e in
      place_ready i p.before d (lay_ready i (omega arith) p.before p.lays) (omega (arith, (lay_keeps (start t) i p.before p.lays).count)) p.finds

  -- a piece for each task laid out, and at most one more for each core
  pub lay_few : (i : ℕ) → i ≤ t.count → (d : Draft) → lay_first (start t) i ≡ laid d → d.plan.placed ≤ i + t.cores
  unfolding start
  lay_few i h d e = omega (arith, drafted_few i (task_of d.plan i).cost 0 d (lay_ready i h d e), (lay_keeps (start t) i d e).cores)

  pub lay_moderate : (i : ℕ) → i ≤ t.count → (d : Draft) → lay_first (start t) i ≡ laid d → Moderate d.plan
  unfolding start
  lay_moderate i h d e = drafted_moderate i (task_of d.plan i).cost 0 d (lay_ready i h d e) (omega (arith, (lay_keeps (start t) i d e).count))
