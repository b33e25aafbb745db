use borrow.Author.Rules.{rules}
use native.Mathlib.Omega.{arith}
use Prim.Native.Nat.{suc, ◌+◌, ◌<◌}
use mathlib.Core.Path.{◌≡◌, refl, sym, ap, ◌∙◌}
use mathlib.Core.Bool.{true, ◌&&◌, ◌||◌}
use native.Mathlib.Numerals.{add-one}
use lib.Dec.{ltb, eqb}
use borrow.Author.Tests.{ltb-true}
use Rattle.tasks.specs.Below.{all}
use Rattle.tasks.proofs.Below.{all_each, all_more, all_fails}
use Rattle.plans.specs.Pieces.{task_of, piece_of, costs}
use Rattle.plans.specs.Shape.{in_order, piece_fits}
use Rattle.plans.proofs.Shaped.{so_far, carried, fits_say, fits_read, where_so}
use Rattle.plans.proofs.pieces_fit.Goals as goal
use Rattle.plans.proofs.pieces_fit.Goals.{After-kept, After-in_place}

-- what piece j's task has spent with it
spends : (c : After-kept) → let pc = piece_of c.args.plan in
    in_order pc c.loop-j.j ≡ true → c.kept.result + (piece_of c.args.plan c.loop-j.j).cost ≡ costs pc (pc c.loop-j.j).task.0 (suc c.loop-j.j)
spends c o =
    let inv = c.loop-j.invariant in
    rw (c.kept.ensures.0, c.index-in-loop-j.ensures.0, c.index-i.ensures.0, inv.2, inv.4) (carried _ _ (λ k h. (fits_say _ _ _ _ _ k (all_each _ _ c.loop-j.invariant.5 k h)).order) o)

-- the test is the piece's
tested : (c : After-in_place) → let p = c.args.plan in
    c.in_place.result && ((ltb (c.loop-j.j + 1) p.placed && eqb c.index-i.result c.index.result) || eqb (c.kept.result + (piece_of c.args.plan c.loop-j.j).cost) (task_of c.args.plan c.min.result).cost)
    ≡ piece_fits p.cores p.count (task_of p) (piece_of p) p.placed c.loop-j.j
tested c =
    let p = c.args.plan in
    rw (c.in_place.ensures (piece_of p) (sym c.loop-j.invariant.2) refl)
    (fits_read p.cores p.count (task_of p) (piece_of p) p.placed c.loop-j.j
    (ltb (c.loop-j.j + 1) p.placed && eqb c.index-i.result c.index.result)
    (eqb (c.kept.result + (piece_of c.args.plan c.loop-j.j).cost) (task_of c.args.plan c.min.result).cost)
    (where_so _ (λ l.
    let k : c.loop-j.j + 1 < p.placed = ltb-true _ _ l in
    let e : c.min-in-loop-j.result ≡ c.loop-j.j + 1 = omega (arith, c.min-in-loop-j.ensures) in
    rw (c.index-i.ensures.0, c.index.ensures.0, e)))
    (λ k o.
    let e : c.min.result ≡ (piece_of p c.loop-j.j).task.0 = omega (arith, c.min.ensures, c.index-i.ensures.0) in
    rw (spends c.before.before o, e)))

pub loop-j-init : goal.loop-j-init
unfolding so_far all
loop-j-init c = search rules

pub returns-then-not-in_place-more : goal.returns-then-not-in_place-more
returns-then-not-in_place-more c =
    sym (all_fails _ _ c.loop-j.j (omega arith) (sym (tested c.before.before) ∙ c.if-not-in_place-more.true))

pub loop-j-preserved : goal.loop-j-preserved
unfolding so_far
loop-j-preserved c =
    let f = sym (tested c.before.before) ∙ c.if-not-in_place-more.false in
    (c.loop-j.invariant.0, c.loop-j.invariant.1, ap (piece_of c.args.plan) (omega arith), omega arith, rw add-one (spends c.before.before.before.before (fits_say _ _ _ _ _ _ f).order), all_more _ _ c.loop-j.invariant.5 f)
