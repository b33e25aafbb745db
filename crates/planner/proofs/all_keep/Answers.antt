use Rattle.std.proofs.Common.{rules, ◌≡◌, length}
use mathlib.Core.Path.{refl, sym, ◌∙◌}
use borrow.Author.Tests.{le-leb, lt-leb}
use Rattle.tasks.specs.Below.{all}
use Rattle.tasks.proofs.Below.{all_more, all_fails}
use Rattle.tasks.proofs.Slices.{part_read}
use Rattle.bounds.proofs.Parts.{part_load}
use Rattle.plans.specs.Pieces.{no_piece}
use Rattle.planner.proofs.Trying.{keeps_other, keeps_own}
use Rattle.planner.proofs.all_keep.Goals as goal

pub loop-b-init : goal.loop-b-init
unfolding all
loop-b-init c = refl

pub loop-b-preserved-then-not-whole_on : goal.loop-b-preserved-then-not-whole_on
loop-b-preserved-then-not-whole_on c =
    let rb = part_read c.args.plan.now.placed c.args.plan.now.pieces c.loop-b.b-index no_piece c.loop-b-test.true in
    all_more _ _ c.loop-b.invariant (keeps_other c.args.plan.now c.args.core.0 c.loop-b.b-index (rw (← rb.1) (sym c.whole_on.ensures ∙ c.if-not-whole_on.true)))

pub returns-then-d-b : goal.returns-then-d-b
returns-then-d-b c =
    let p = c.args.plan.now in
    let l : length p.pieces ≡ 128 = search rules in
    let rb = part_read p.placed p.pieces c.loop-b.b-index no_piece c.loop-b-test.true in
    let e = rw (c.index.ensures.0, rb.1) at (c.load-load.ensures.0 ∙ part_load p c.requires.0 l _ _) in
    let k = keeps_own p c.args.core.0 c.loop-b.b-index c.requires.1 rb.0 (rw (← rb.1) (sym c.whole_on.ensures ∙ c.if-not-whole_on.false)) _ refl in
    sym (all_fails _ _ c.loop-b.b-index rb.0 (k ∙ rw (← e) (lt-leb _ _ (rw (c.index.ensures.0, rb.1) at c.if-d-b.true))))

pub loop-b-preserved : goal.loop-b-preserved
loop-b-preserved c =
    let p = c.args.plan.now in
    let l : length p.pieces ≡ 128 = search rules in
    let rb = part_read p.placed p.pieces c.loop-b.b-index no_piece c.loop-b-test.true in
    let e = rw (c.index.ensures.0, rb.1) at (c.load-load.ensures.0 ∙ part_load p c.requires.0 l _ _) in
    let k = keeps_own p c.args.core.0 c.loop-b.b-index c.requires.1 rb.0 (rw (← rb.1) (sym c.whole_on.ensures ∙ c.if-not-whole_on.false)) _ refl in
    all_more _ _ c.loop-b.invariant (k ∙ rw (← e) (le-leb _ _ (rw (c.index.ensures.0, rb.1) at c.if-d-b.false)))
