use borrow.Author.Rules.{rules}
use native.Mathlib.Omega.{arith}
use mathlib.Core.Path.{◌≡◌, refl}
use lib.ListN.{length}
use Rattle.bounds.proofs.Filled.{filled}
use Rattle.tasks.specs.Tables.{no_task}
use Rattle.planner.specs.Layout.{start}
use Rattle.planner.proofs.begin.Goals as goal

pub returns : goal.returns
unfolding start
returns c =
    let l : length c.args.table.tasks ≡ 64 = search rules in
    rw (filled 64 c.args.table.count c.args.table.count no_task c.args.table.tasks _ _ (omega arith) (omega arith) c.copy_from_slice.ensures.after refl)
