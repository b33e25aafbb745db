use Rattle.writing.proofs.Writing.{plan_written_lem, row_taken}
use Rattle.writing.specs.Fields.{piece_field}
use Rattle.plans.specs.Pieces.{no_piece}
use mathlib.Core.Path.{◌≡◌, ◌∙◌}
use native.Mathlib.Omega.{arith}
use Prim.Native.Nat.{◌+◌, ◌*◌, ◌≤◌}
use lib.ListN.{length}
use lib.Seq.{length-take-le}
use Rattle.writing.proofs.put_plan.Goals as goal

pub returns : goal.returns
returns c =
    let l : length c.args.plan.pieces ≡ 128 = c.well_formed.1.0.1.1.1.1.1.1.0.1.0.1 in
    let h : c.args.plan.placed ≤ length c.args.plan.pieces = omega (arith, l) in
    let r : c.put_all.result ≡ c.put_table-start.result + 10 * c.args.plan.placed = rw (length-take-le c.args.plan.placed c.args.plan.pieces h) at c.put_all.ensures.0 in
    (omega (arith, c.put_table-start.ensures.0, r), rw (row_taken c.args.plan.placed c.args.plan.pieces piece_field no_piece h) at c.put_all.ensures.1 ∙ plan_written_lem c.args.plan c.args.out.now _ _ _ _ r c.put_table-start.ensures.0 c.put_table-start.ensures.1)
