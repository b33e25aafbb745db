-- Demand 3 for every table that the planner accepts, and before that for every plan of good shape that has the certificate.
-- What `Demand3` says is in specs/Demand3.antt.
use mathlib.Core.Path.{◌≡◌}
use mathlib.Core.List.{[], ◌∷◌}
use Prim.Native.Nat.{ℕ}
use native.Mathlib.Omega.{arith}
use Rattle.std.specs.Prelude.{Ok}
use Rattle.tasks.specs.Answers.{Accepted}
use Rattle.tasks.specs.declared.Table.{Table}
use Rattle.plans.proofs.InShape.{GoodPlan, accepted_plan}
use Rattle.plans.proofs.Rank.{above_self, above_chain}
use Rattle.bounds.specs.Bound.{local_deadline, load, bound}
use Rattle.bounds.specs.Certificate.{Certified}
use Rattle.plans.specs.Pieces.{task_of, piece_of}
use Rattle.plans.specs.Shape.{checked_plan}
use Rattle.plans.specs.declared.Plan.{Plan}
use Rattle.planner.proofs.Certified.{planned_cores, planned_count, planned_tasks, planned_shape, planned_certified}
use Rattle.planner.specs.Layout.{planned}
use Rattle.dispatch.specs.States.{fresh_state}
use Rattle.schedules.specs.Certificate.{Certificate, Timely}
use Rattle.promise.specs.Demand3.{Demand3, PlanOf}
use Rattle.promise.specs.Requests.{after}
use Rattle.promise.specs.View.{model_of}
use Rattle.promise.proofs.Cores.{one_core_lem, cores_rise}
use Rattle.promise.proofs.LeftOut.{left_out}
use Rattle.promise.proofs.Runs.{after_append, due_over, none_late}
use Rattle.promise.proofs.Sound.{piece_fits_lem, within_cost}
use Rattle.promise.proofs.TooSoon.{soon_refused, soon_named, soon_only}

module _ (p : Plan) (good : checked_plan p ≡ Accepted) where
  checked : GoodPlan p
  checked = accepted_plan p good

  -- any limits that are certified and within the deadlines
  pub by_limits : (limit : ℕ → ℕ) → Certificate (model_of p) limit → Timely (model_of p) limit (λ i. (task_of p i).deadline) → Demand3 p
  unfolding after
  by_limits limit C short = record {
    ends = λ before q later i d. rw (after_append p fresh_state before (q ∷ later)) (due_over p checked limit C short before q later i d).0;
    shown = λ before q later i d. rw (after_append p fresh_state before (q ∷ [])) (due_over p checked limit C short before q later i d).1;
    none = none_late p checked limit C short;
    one_core = one_core_lem p;
    rises = cores_rise p;
    soon = soon_refused p checked;
    eleven = soon_named p checked;
    only = soon_only p checked;
    uncounted = left_out p;
  }

  -- document 01's certificate: the limits are the local deadlines
  pub demand_3 : Certified (task_of p) (piece_of p) p.placed → Demand3 p
  unfolding local_deadline bound load
  demand_3 C = by_limits (local_deadline (task_of p) (piece_of p))
      (record { strict = λ j. above_self (task_of p) (piece_of p j); chain = λ i j k. above_chain (task_of p) (piece_of p i) (piece_of p j) (piece_of p k); top = C.top; bound = C.within })
      (λ q h z. omega (arith, within_cost p checked q h, checked.table.values _ (piece_fits_lem p checked q h).task))

-- For every table for which the planner answers with a plan: it is a plan of that table, and no job is late.
pub no_job_is_late : (t : Table) (p : Plan) → planned t ≡ Ok p → PlanOf t p × Demand3 p
no_job_is_late t p h = (record { cores = planned_cores t p h; count = planned_count t p h; tasks = planned_tasks t p h }, demand_3 p (planned_shape t p h) (planned_certified t p h))
