use Rattle.std.proofs.lemmas.List.{get_or_default}
use mathlib.Core.Path.{ap, ◌∙◌}
use native.Mathlib.Omega.{arith}
use native.Mathlib.Nat.{mul-le-mul_left}
use lib.ListN.{get_or, length}
use Prim.Native.Nat.{ℕ, ◌+◌, ◌*◌, ◌≤◌}
use Rattle.writing.proofs.Writing.{row_none, row_more, mul_add_one}
use Rattle.writing.proofs.put_all.Goals as goal

pub loop-field-init : goal.loop-field-init
loop-field-init g c = row_none g.F.Field.SIZE (λ n. g.F.Field.field (get_or c.args.fields.now n g.F.Field.none)) (λ n. g.met.F.Field.each _) c.args.start c.args.out.now

pub loop-field-preserved : goal.loop-field-preserved
loop-field-preserved g c =
    let f = λ (n : ℕ). g.F.Field.field (get_or c.args.fields.now n g.F.Field.none) in
    let r : g.F.Field.SIZE * (c.loop-field.field-index + 1) ≤ g.F.Field.SIZE * length c.args.fields.now = mul-le-mul_left _ (omega (arith, c.loop-field-test.true)) in
    let fits : c.loop-field.at + g.F.Field.SIZE ≤ length c.args.out.now = omega (arith, r, c.requires, c.loop-field.invariant.next, mul_add_one g.F.Field.SIZE c.loop-field.field-index) in
    let e = row_more g.F.Field.SIZE f (λ n. g.met.F.Field.each _) c.args.start c.args.out.now c.loop-field.out c.put.new.out (g.F.Field.field c.field-item.result) c.loop-field.at c.loop-field.field-index c.loop-field.invariant fits (ap g.F.Field.field (c.field-item.is ∙ get_or_default _ _ _ _ c.loop-field-test.true)) c.put.ensures in rw c.SIZE-at.ensures e
