use mathlib.Core.Bool.{false}
use mathlib.Core.Path.{◌≡◌, ap, ◌∙◌}
use native.Mathlib.Omega.{arith}
use Rattle.jobs.specs.Sets.{member}
use Rattle.jobs.proofs.Walks.{tabulated}
use Rattle.dispatch.specs.Rules.{first_piece, released_job, release}
use Rattle.dispatch.proofs.InPlace.{changed, changed_start, changed_turn, changed_all}
use Rattle.dispatch.proofs.State.release.Goals as goal

pub loop-i-init : goal.loop-i-init
loop-i-init c = λ p h. changed_start (released_job p c.args.released) _ c.requires.1.whole

pub loop-i-preserved : goal.loop-i-preserved
loop-i-preserved c = λ p h.
    let rs = c.args.released in
    changed_turn (released_job p rs) _ _ _ _ (c.loop-i.invariant p h) (omega arith) (c.released_job.ensures p rs _ (tabulated 256 (member rs) _ _ false c.marks-marks.ensures (omega arith)) (tabulated 256 (first_piece p) _ _ 0 h (omega arith)))

pub returns : goal.returns
unfolding release
returns c = λ p h q. let rs = c.args.released in let e : c.loop-i.i ≡ p.count = omega (arith, h, c.loop-i.auto.i-end) in c.loop-i.invariant p q ∙ ap (changed (released_job p rs) _) e ∙ changed_all (released_job p rs) _ p (rw h c.requires.1)
