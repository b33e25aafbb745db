use mathlib.Core.Path.{◌≡◌, sym, ◌∙◌}
use native.Mathlib.Omega.{arith}
use lib.ListN.{length}
use Rattle.std.proofs.lemmas.Result.{err_from_is_err_and}
use Rattle.playback.proofs.Ending.{last_none, last_some}
use Rattle.playback.proofs.Good.{refused_as, accepted_as}
use Rattle.playback.proofs.last.Goals as goal

pub returns-then-count-eq0 : goal.returns-then-count-eq0
returns-then-count-eq0 c = last_none _ _ c.min-count.ensures (omega arith)

pub returns-in_err-judge : goal.returns-in_err-judge
returns-in_err-judge c =
    let l : length c.args.player.bytes ≡ 4096 = c.well_formed.0.1.1.1.0.1.0.1 in
    let e = err_from_is_err_and c.from_residual.result c.from_residual.ensures.1 in
    rw (e.1, e.2) (last_some _ _ _ l c.min-count.ensures c.if-count-eq0.false (sym (refused_as _ _ _ (sym c.judge.ensures ∙ c.in_err-judge.was))))

pub returns : goal.returns
returns c =
    let l : length c.args.player.bytes ≡ 4096 = c.well_formed.0.1.1.1.0.1.0.1 in
    last_some _ _ _ l c.min-count.ensures c.if-count-eq0.false (sym (accepted_as _ _ _ (sym c.judge.ensures ∙ c.in_ok-judge.was)).0)
