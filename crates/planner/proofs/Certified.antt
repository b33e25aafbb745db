-- Every plan that the planner makes: it is over the table's cores and tasks, its pieces are few, it has the plan shape, and it has the certificate.
use mathlib.Core.Path.{◌≡◌, refl, sym, subst}
use Prim.Native.Nat.{ℕ, ◌+◌, ◌≤◌, ◌<◌}
use native.Mathlib.Nat.{le_refl}
use native.Mathlib.Omega.{arith}
use Rattle.tasks.proofs.Padded.{padded_out}
use Rattle.tasks.proofs.Tables.{good_accepted}
use Rattle.tasks.specs.Tables.{no_task, checked_table}
use Rattle.tasks.specs.Tables as table
use Rattle.tasks.specs.Answers.{Answer, Accepted, Refused}
use Rattle.tasks.specs.declared.Table.{Table}
use Rattle.std.specs.Prelude.{Ok}
use Rattle.planner.proofs.Placing.{refused_not, plan_is}
use Rattle.plans.specs.declared.Plan.{Plan}
use Rattle.plans.proofs.Shaped.{shape_accepted}
use Rattle.bounds.specs.Certificate.{Certified}
use Rattle.plans.specs.Pieces.{task_of, piece_of, CleanPlan}
use Rattle.plans.specs.Shape.{checked_plan}
use Rattle.planner.specs.Layout.{start, lay_first, Laying, laid, stuck, planned}
use Rattle.planner.specs.declared.Draft.{Draft}
use Rattle.planner.proofs.Drafts.{LaidBefore, drafted_room, start_task}
use Rattle.planner.proofs.Keeps.{Keeps, lay_keeps}
use Rattle.planner.proofs.Reached.{lay_ready, lay_few}
use Rattle.planner.proofs.Shape.{laid_shape}

-- a draft in which every task is laid out has the plan shape
complete_shape : (d : Draft) → LaidBefore d.plan.count d → checked_plan d.plan ≡ Accepted
complete_shape d R = shape_accepted d.plan (good_accepted _ _ _ R.good) (laid_shape _ _ _ _ _ _ _ R.laid R.good.tasks.0 (omega (arith, drafted_room _ _ 0 d R (le_refl _))))

-- a table that gets a plan is good, and its plan is that of the draft in which all its tasks are laid out
pub record Planning (t : Table) (p : Plan) : Type 0 where
  pub good : checked_table t ≡ Accepted
  pub draft : Draft
  pub lays : lay_first (start t) t.count ≡ laid draft
  pub plan : p ≡ draft.plan

pub accepted_planning : (t : Table) (p : Plan) → planned t ≡ Ok p → Planning t p
unfolding planned
accepted_planning t p h = go _ refl _ refl
  where
    go : (a : Answer) → checked_table t ≡ a → (l : Laying) → lay_first (start t) t.count ≡ l → Planning t p
    go (Refused r) e l q = refused_not (rw e at h)
    go Accepted e (stuck k) q = refused_not (rw (e, q) at h)
    go Accepted e (laid d) q = record { good = e; draft = d; lays = q; plan = plan_is (sym (rw (e, q) at h)) }

module _ (t : Table) (p : Plan) (is : planned t ≡ Ok p) where
  planning : Planning t p
  planning = accepted_planning t p is

  all_laid : LaidBefore t.count planning.draft
  all_laid = lay_ready t planning.good t.count (le_refl _) planning.draft planning.lays

  kept : Keeps (start t).plan planning.draft.plan
  kept = lay_keeps (start t) t.count planning.draft planning.lays

  -- the plan is over the table's cores and tasks
  pub planned_cores : p.cores ≡ t.cores
  unfolding start
  planned_cores = rw planning.plan kept.cores

  pub planned_count : p.count ≡ t.count
  unfolding start
  planned_count = rw planning.plan kept.count

  pub planned_tasks : (i : ℕ) → i < t.count → task_of p i ≡ table.task_of t i
  planned_tasks i h = rw (planning.plan, kept.tasks) (start_task t planning.good i h)

  -- it has at most a piece for each task and one for each core
  pub planned_few : p.placed ≤ t.count + t.cores
  planned_few = rw planning.plan (lay_few t planning.good t.count (le_refl _) planning.draft planning.lays)

  -- the entries past its counts are 0
  pub planned_clean : CleanPlan p
  unfolding start
  planned_clean = rw planning.plan (record {
    tasks = λ i h. rw kept.tasks (padded_out 64 no_task t.count (table.task_of t) i (omega (arith, kept.count)));
    pieces = all_laid.clean;
  })

  -- it is a good table's plan and has the plan shape
  pub planned_shape : checked_plan p ≡ Accepted
  unfolding start
  planned_shape = rw planning.plan (complete_shape planning.draft (subst (λ (n : ℕ). LaidBefore n planning.draft) (sym kept.count) all_laid))

  -- it has the certificate
  pub planned_certified : Certified (task_of p) (piece_of p) p.placed
  planned_certified = rw planning.plan (record { within = λ q h z. all_laid.laid.within q h; top = λ j k a b z. (all_laid.laid.tops k b z).alone j a })
