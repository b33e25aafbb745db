use Rattle.writing.proofs.Writing.{Rowed}
use lib.ListN.{get_or}
use Rattle.writing.proofs.put_all.Given as goal

abbrev pub invariant-loop-field : goal.invariant-loop-field
invariant-loop-field g l = Rowed g.F.Field.SIZE (λ n. g.F.Field.field (get_or l.fields n g.F.Field.none)) l.start l.initial.out l.out l.at l.field-index
