use Rattle.writing.proofs.Writing.{tasks_written, row_taken}
use Rattle.writing.specs.Fields.{task_field}
use Rattle.tasks.specs.Tables.{no_task}
use mathlib.Core.Path.{◌≡◌, ◌∙◌}
use native.Mathlib.Omega.{arith}
use Prim.Native.Nat.{◌+◌, ◌*◌, ◌≤◌}
use lib.ListN.{length}
use lib.Seq.{length-take-le}
use Rattle.writing.proofs.put_table.Goals as goal

pub returns : goal.returns
returns c =
    let l : length c.args.tasks ≡ 64 = c.well_formed.1.1.1.0.1.0.1 in
    let h : c.args.count ≤ length c.args.tasks = omega (arith, l) in
    let r : c.put_all.result ≡ 4 + 15 * c.args.count = rw (length-take-le c.args.count c.args.tasks h) at c.put_all.ensures.0 in
    (r, rw (row_taken c.args.count c.args.tasks task_field no_task h) at c.put_all.ensures.1 ∙ tasks_written c.args.out.now _ c.args.cores c.args.count _ _ _ r (omega arith) c.put_cores.ensures)
