use Rattle.files.specs.Reading.{table_closed}
use mathlib.Core.Path.{◌≡◌, sym, ◌∙◌}
use lib.ListN.{length}
use Rattle.tasks.specs.Tables.{no_task}
use Rattle.files.proofs.Clean.{padded_emptied}
use Rattle.files.proofs.close_table.Goals as goal

pub returns : goal.returns
unfolding table_closed
returns c =
    let p = c.args.reader.plan in
    let l : length p.tasks ≡ 64 = c.well_formed.0.1.1.1.0.1.1.1.1.0.1.0.1 in
    rw (sym c.table_ended.ensures.answer ∙ c.in_ok-table_ended.was, padded_emptied 64 no_task p.count p.tasks c.fill.new.self l c.in_ok-table_ended.ensures.room (c.fill.ensures.after (λ y e. e)))
