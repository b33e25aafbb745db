-- What an accepted plan and a well made state are.
use mathlib.Core.Path.{◌≡◌}
use mathlib.Core.Bool.{true, cond}
use Prim.Native.Nat.{ℕ, ◌≤◌, ◌<◌}
use lib.Dec.{eqb}
use borrow.Author.Tests.{leb-true}
use Rattle.tasks.specs.Below.{first}
use Rattle.tasks.specs.Answers.{Accepted, Refused}
use Rattle.tasks.specs.declared.Refusal.TheVariants.{NotWellMade}
use Rattle.tasks.proofs.Tables.{Ranges}
use Rattle.tasks.proofs.Answers.{both_accepted, met}
use Rattle.plans.specs.Pieces.{task_of, piece_of}
use Rattle.plans.specs.Shape.{in_order, checked_plan}
use Rattle.plans.specs.declared.Plan.{Plan}
use Rattle.plans.proofs.InShape as shape
use Rattle.plans.proofs.InShape.{GoodPlan, accepted_plan}
use Rattle.plans.proofs.Shaped.{Fits}
use Rattle.dispatch.specs.Advance.{checked}
use Rattle.dispatch.specs.Sound.{Sound}
use Rattle.dispatch.specs.States.{well_made}
use Rattle.dispatch.specs.declared.State.{State}

-- ---- an accepted plan and a well made state
pub record Ready (p : Plan) (s : State) : Type 0 where
  pub plan : checked_plan p ≡ Accepted
  pub state : well_made p s ≡ true

pub ready_checked : (p : Plan) (s : State) → checked p s ≡ Accepted → Ready p s
unfolding checked
ready_checked p s h = let a : (checked_plan p ≡ Accepted) × (cond (well_made p s) Accepted (Refused NotWellMade) ≡ Accepted) = both_accepted _ _ h in record { plan = a.0; state = met _ _ a.1 }

-- ---- an accepted plan
pub record Good (p : Plan) : Type 0 where
  pub cores : p.cores ≤ 16
  pub count : p.count ≤ 64
  pub values : (i : ℕ) → i < p.count → Ranges (task_of p i)
  pub some : 1 ≤ p.placed
  pub placed : p.placed ≤ 128
  pub fits : (j : ℕ) → j < p.placed → Fits p.cores p.count (task_of p) (piece_of p) p.placed j
  -- each task has a first piece
  pub begins : (i : ℕ) → i < p.count → (first p.placed (λ k. eqb (piece_of p k).task.0 i) < p.placed) × ((piece_of p (first p.placed (λ k. eqb (piece_of p k).task.0 i))).task.0 ≡ i)

pub good : (p : Plan) → checked_plan p ≡ Accepted → Good p
good p h =
    let q : GoodPlan p = accepted_plan p h in
    let t = shape.tests p.cores p.count (task_of p) (piece_of p) p.placed q.shaped in
    record {
      cores = q.table.cores.1;
      count = q.table.tasks.1;
      values = q.table.values;
      some = leb-true 1 p.placed t.0;
      placed = leb-true p.placed 128 t.1;
      fits = shape.fits p.cores p.count (task_of p) (piece_of p) p.placed q.shaped;
      begins = λ i l. let b = shape.begins p.cores p.count (task_of p) (piece_of p) p.placed q.shaped i l in (b.known, b.own);
    }

module _ (p : Plan) (g : Good p) where
  pub sound : Sound p
  sound = record {
    cores = g.cores;
    count = g.count;
    placed = g.placed;
    tasks = λ j l. (g.fits j l).task;
    places = λ j l. (g.fits j l).core;
  }

  in_order_lem : (j : ℕ) → j < p.placed → in_order (piece_of p) j ≡ true
  in_order_lem j l = (g.fits j l).order
