-- With as many lent bytes as a plan file can have, every table that is read and planned has its file written whole.
use mathlib.Core.Path.{◌≡◌, refl}
use mathlib.Core.List.{List}
use Prim.Native.Nat.{ℕ, ◌≤◌}
use native.Mathlib.Omega.{arith}
use Rattle.std.specs.Prelude.{Ok}
use lib.ListN.{length}
use borrow.Author.Tests.{le-leb}
use Rattle.tasks.specs.Answers.{Accepted}
use Rattle.plans.specs.Shape.{checked_plan}
use Rattle.plans.specs.declared.Plan.{Plan}
use Rattle.planner.proofs.Certified.{planned_shape}
use Rattle.planner.specs.Layout.{planned}
use Rattle.tasks.specs.declared.Table.{Table}
use Rattle.writing.proofs.Writing.{plan_length, plan_small}
use Rattle.writing.specs.Fields.{plan_bytes}
use Rattle.writing.specs.Writing.{plan_written}
use Rattle.planfile.specs.PlanFile.{file_written, file_most}

-- no plan file is longer
pub file_most_lem : (p : Plan) → checked_plan p ≡ Accepted → length (plan_bytes p) ≤ file_most
file_most_lem p good = omega (arith, plan_length p, plan_small p (checked_plan p) refl good)

-- so the writer's refusal 13 is never given
pub always_room : (t : Table) (p : Plan) (lent : List ℕ) → file_most ≤ length lent → planned t ≡ Ok p → file_written (Ok t) lent ≡ Ok (length (plan_bytes p))
unfolding file_written plan_written
always_room t p lent room made = rw (made, planned_shape t p made, le-leb (length (plan_bytes p)) (length lent) (omega (arith, file_most_lem p (planned_shape t p made))))
