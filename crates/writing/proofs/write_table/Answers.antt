use Rattle.std.proofs.lemmas.Result.{err_from_is_err_and}
use Rattle.writing.proofs.Writing.{write_refused, write_short, write_done, table_length}
use Rattle.writing.specs.Writing.{table_written, table_filled}
use Rattle.writing.specs.Fields.{table_bytes}
use mathlib.Core.Path.{sym, ◌∙◌}
use Rattle.writing.proofs.write_table.Goals as goal

pub returns-in_err-check_table : goal.returns-in_err-check_table
unfolding table_written table_filled
returns-in_err-check_table c =
    let p = err_from_is_err_and c.from_residual.result c.from_residual.ensures.1 in
    rw (p.1, p.2) (write_refused _ (table_bytes c.args.table) _ _ (sym c.check_table.ensures ∙ c.in_err-check_table.was))

pub returns-then-out-length : goal.returns-then-out-length
unfolding table_written table_filled
returns-then-out-length c = write_short _ _ _ (sym c.check_table.ensures ∙ c.in_ok-check_table.was) _ (table_length c.args.table) c.if-out-length.true

pub returns : goal.returns
unfolding table_written table_filled table_bytes
returns c = write_done _ _ _ (sym c.check_table.ensures ∙ c.in_ok-check_table.was) _ (table_length c.args.table) _ _ c.put_table.ensures.0 c.if-out-length.false c.put_table.ensures.1
