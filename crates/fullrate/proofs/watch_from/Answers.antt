use mathlib.Core.Path.{◌≡◌, refl}
use borrow.Author.Rules.{rules}
use Rattle.board.proofs.Keeping.{keeping}
use Rattle.board.proofs.Turns.{kept_start, kept_turn}
use Rattle.board.proofs.Walk.{Held, struct}
use Rattle.fullrate.specs.Watching.{none_finished, all_released, saw}
use Rattle.fullrate.specs.contracts.Seen as S
use Rattle.fullrate.proofs.Seen.TheLaws as S'
use Rattle.fullrate.specs.contracts.Watched as W
use Rattle.fullrate.proofs.Watched.TheLaws as W'
use Rattle.fullrate.proofs.none_finished.Symbol.{name as #fullrate·none_finished}
use Rattle.fullrate.proofs.all_released.Symbol.{name as #fullrate·all_released}
use Rattle.fullrate.proofs.see.Symbol.{name as #fullrate·see}
use Rattle.fullrate.proofs.watched_at.Symbol.{name as #fullrate·watched_at}
use Rattle.fullrate.proofs.watch_from.Code as code
use Rattle.fullrate.proofs.watch_from.Goals as goal

pub loop-n-init : goal.loop-n-init
loop-n-init c = (search rules, kept_start none_finished all_released saw c.args.plan c.args.seen c.args.state)

pub loop-n-preserved : goal.loop-n-preserved
loop-n-preserved c =
    let kept = c.loop-n.invariant.1 in
    (search rules, kept_turn none_finished all_released saw c.args.plan c.args.seen c.args.state c.loop-n.n _ _ _ _ _ _ _ kept c.none_finished-finished.ensures c.all_released-released.ensures c.step-ran.ensures c.see-seen.ensures)

-- ---- the code is that of a loop that keeps one record, of which `keeps_meet` speaks
abbrev seens : Held
seens = struct S.the_type S'.the_laws S'.the_plain S'.mir refl

abbrev watcheds : Held
watcheds = struct W.the_type W'.the_laws W'.the_plain W'.mir refl

pub is_keeping : code.function ≡ keeping seens.type watcheds.type #fullrate·none_finished #fullrate·all_released #fullrate·see #fullrate·watched_at
is_keeping = refl
