use mathlib.Core.Path.{◌≡◌, ◌∙◌}
use lib.ListN.{length}
use Rattle.fullrate.proofs.Cores.{ran_read}
use Rattle.fullrate.proofs.ran_in.Goals as goal

pub returns : goal.returns
returns c =
    let size : length c.args.runs ≡ 16 = c.well_formed.1.0.1.0.1 in
    c.contains.ensures.value ∙ ran_read c.args.cores _ c.args.runs c.args.task size c.min.ensures
