use Rattle.files.specs.Reading.{plan_closed}
use mathlib.Core.Path.{◌≡◌, sym, ◌∙◌}
use lib.ListN.{length}
use Rattle.tasks.specs.Tables.{no_task}
use Rattle.plans.specs.Pieces.{no_piece}
use Rattle.files.proofs.Clean.{padded_emptied}
use Rattle.files.proofs.close_plan.Goals as goal

pub returns : goal.returns
unfolding plan_closed
returns c =
    let p = c.args.reader.plan in
    let k : length p.tasks ≡ 64 = c.well_formed.0.1.1.1.0.1.1.1.1.0.1.0.1 in
    let l : length p.pieces ≡ 128 = c.well_formed.0.1.1.1.0.1.1.1.1.1.1.0.1.0.1 in
    let room = c.in_ok-plan_ended.ensures.room in
    rw (
      sym c.plan_ended.ensures.answer ∙ c.in_ok-plan_ended.was,
      padded_emptied 64 no_task p.count p.tasks c.fill.new.self k room.0 (c.fill.ensures.after (λ y e. e)),
      padded_emptied 128 no_piece p.placed p.pieces c.fill-2.new.self l room.1 (c.fill-2.ensures.after (λ y e. e)),
    )
