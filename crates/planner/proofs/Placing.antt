-- Laws of placing a task.
use mathlib.Core.Path.{◌≡◌, refl, sym, ap}
use mathlib.Core.Bool.{Bool, true, false, cond}
use Rattle.std.specs.Prelude.{Some, None, Result, Ok, Err}
use Prim.Native.Nat.{ℕ, zero, suc, ◌+◌, ◌≤◌, ◌<◌}
use native.Mathlib.Nat.{add-zero, add-suc}
use native.Mathlib.Numerals.{add-one}
use native.Mathlib.Omega.{arith}
use lib.Dec.{ltb}
use borrow.Author.Tests.{ltb-true, ltb-false}
use Rattle.tasks.proofs.Below.{first_holds, first_none}
use Rattle.tasks.specs.Below.{any, first}
use Rattle.tasks.specs.Tables.{core_no, checked_table}
use Rattle.tasks.specs.Answers.{Accepted, Refused}
use Rattle.tasks.specs.declared.CoreNo.{CoreNo}
use Rattle.tasks.specs.declared.Refusal.{Refusal}
use Rattle.tasks.specs.declared.Table.{Table}
use Rattle.plans.specs.Pieces.{task_of}
use Rattle.std.proofs.lemmas.Option.{cond_some, none-some}
use Rattle.planner.proofs.Keeps.{place_whole, place_shared}
use Rattle.plans.specs.declared.Plan.{Plan}
use Rattle.planner.specs.Layout.{start, place, laid, stuck, lay_first, refused, outcome, planned}
use Rattle.planner.specs.Shared.{share_from}
use Rattle.planner.specs.Whole.{put, draft, whole_piece, takes_whole}
use Rattle.planner.specs.Asked.{taker}
use Rattle.planner.specs.declared.Draft.{Draft}

-- what a search for the lowest core that takes a task whole says: that core, or that there is none
taker_core : (m x : ℕ) (core : CoreNo) → taker m x ≡ Some core → (x ≡ core.0) × (x < m)
taker_core m x core e = let c = cond_some (ltb x m) (core_no x) core e in (ap (λ (k : CoreNo). k.0) c.1, ltb-true x m c.0)

taker_none : (m x : ℕ) → taker m x ≡ None → m ≤ x
taker_none m x e = go _ refl e
  where
    go : (b : Bool) → ltb x m ≡ b → cond b (Some (core_no x)) None ≡ None → m ≤ x
    go true h k = absurd (none-some _ (sym k))
    go false h k = ltb-false x m h

module _ (d : Draft) (i : ℕ) where
  -- a core takes the task whole
  pub placed_whole : (core : CoreNo) → taker d.plan.cores (first d.plan.cores (takes_whole d i)) ≡ Some core → place d i ≡ Some (draft (put (whole_piece d.plan i core.0) d.plan) d.closed)
  placed_whole core e = go _ refl
    where
      there : (first d.plan.cores (takes_whole d i) ≡ core.0) × (first d.plan.cores (takes_whole d i) < d.plan.cores)
      there = taker_core d.plan.cores (first d.plan.cores (takes_whole d i)) core e

      go : (b : Bool) → any d.plan.cores (takes_whole d i) ≡ b → place d i ≡ Some (draft (put (whole_piece d.plan i core.0) d.plan) d.closed)
      go true a = rw (← there.0) (place_whole d i a)
      go false a = absurd (omega (arith, there.1, first_none d.plan.cores (takes_whole d i) a))

  -- none does, so it is shared
  pub placed_shared : taker d.plan.cores (first d.plan.cores (takes_whole d i)) ≡ None → place d i ≡ share_from d i (task_of d.plan i).cost 0 d.plan.cores
  placed_shared e = go _ refl
    where
      go : (b : Bool) → any d.plan.cores (takes_whole d i) ≡ b → place d i ≡ share_from d i (task_of d.plan i).cost 0 d.plan.cores
      go false a = place_shared d i a
      go true a = absurd (omega (arith, taker_none d.plan.cores (first d.plan.cores (takes_whole d i)) e, (first_holds d.plan.cores (takes_whole d i) a).0))

-- one task more
module _ (d e : Draft) (i : ℕ) (so_far : lay_first d i ≡ laid e) where
  pub lay_more : (f : Draft) → place e i ≡ Some f → lay_first d (i + 1) ≡ laid f
  unfolding lay_first
  lay_more f h = rw (add-one, lay_first, so_far, h)

  -- a task that finds no place stops the layout for good
  pub lay_stuck : place e i ≡ None → (k : ℕ) → lay_first d (i + 1 + k) ≡ stuck i
  unfolding lay_first
  lay_stuck h zero = rw (add-zero, add-one, lay_first, so_far, h)
  lay_stuck h (suc k) = rw (add-suc, lay_first, lay_stuck h k)

-- a refusal is no plan, and two refusals or two plans that are one answer are the same
pub err_is : {A : Type 0} {r s : Refusal} → ◌≡◌ {A = Result A Refusal} (Err r) (Err s) → r ≡ s
err_is e = cc

pub refused_not : {A : Type 0} {r : Refusal} {p : Plan} → ◌≡◌ {A = Result Plan Refusal} (Err r) (Ok p) → A
refused_not e = let z : ◌≡◌ {A = ℕ} 0 1 = cc in absurd (omega arith)

pub plan_is : {p q : Plan} → ◌≡◌ {A = Result Plan Refusal} (Ok p) (Ok q) → p ≡ q
plan_is e = cc

-- the answers of the planner, by what the table's check says
pub table_refused : (t : Table) (r : Refusal) → checked_table t ≡ Refused r → planned t ≡ refused r
unfolding planned
table_refused t r h = rw h

pub table_laid : (t : Table) → checked_table t ≡ Accepted → planned t ≡ outcome (lay_first (start t) t.count)
unfolding planned
table_laid t h = rw h
