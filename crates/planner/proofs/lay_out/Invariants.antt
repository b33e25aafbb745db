use mathlib.Core.Path.{◌≡◌}
use Rattle.planner.specs.Layout.{start, laid, lay_first}
use Rattle.planner.proofs.lay_out.Given as goal

abbrev pub invariant-loop-i : goal.invariant-loop-i
invariant-loop-i l = lay_first (start l.fn.table) l.i ≡ laid l.draft
