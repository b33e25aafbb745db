-- Tables that agree up to their counts are laid out alike: what stands past a count is not read.
use mathlib.Core.Path.{◌≡◌}
use Rattle.tasks.proofs.Padded.{padded_same}
use Rattle.tasks.proofs.SameTables.{table_same}
use Rattle.tasks.specs.Tables.{no_task, task_of, SameTable}
use Rattle.tasks.specs.declared.Table.{Table}
use Rattle.planner.specs.Layout.{start, planned}

module _ (a b : Table) (same : SameTable a b) where
  -- the same draft at the start
  start_same : start a ≡ start b
  unfolding start
  start_same = rw (padded_same 64 no_task a.count (task_of a) (task_of b) same.tasks, same.cores, same.count)

  -- the same answer, and the same plan, entries past its counts included
  pub planned_same : planned a ≡ planned b
  unfolding planned
  planned_same = rw (table_same a b same, start_same, same.count)
