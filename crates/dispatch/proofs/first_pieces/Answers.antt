use mathlib.Core.Path.{◌≡◌}
use native.Mathlib.Omega.{arith}
use Rattle.tasks.proofs.Tabulate.{tabulate_start, tabulate_same}
use Rattle.dispatch.specs.Rules.{first_piece}
use Rattle.dispatch.proofs.Walks.{firsts_start, firsts_more, firsts_all}
use Rattle.dispatch.proofs.first_pieces.Goals as goal

pub loop-j-init : goal.loop-j-init
loop-j-init c = tabulate_start 256 _ _ (λ i l. firsts_start _ _ i)

pub loop-j-preserved : goal.loop-j-preserved
loop-j-preserved c = firsts_more _ _ _ c.loop-j.j _ _ (omega arith) c.loop-j.invariant (omega (arith, c.loop-j.auto.j)) c.index.ensures.0 c.index.ensures.1

pub returns : goal.returns
unfolding first_piece
returns c = let e : c.loop-j.j ≡ 0 = omega arith in simp (c.loop-j.invariant, e) (tabulate_same 256 _ _ 0 (λ i l. firsts_all _ _ i))
