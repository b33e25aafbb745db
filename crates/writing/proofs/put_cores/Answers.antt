use mathlib.Core.Path.{sym}
use Rattle.writing.specs.Fields.{core_field}
use lib.Seq.{sets-eq}
use Rattle.writing.proofs.put_cores.Goals as goal

pub returns : goal.returns
unfolding core_field
returns c = rw c.copy_from_slice.ensures.after (sym (sets-eq (core_field c.args.cores) c.args.out.now 0 c.requires))
