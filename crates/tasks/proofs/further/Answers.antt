use Rattle.std.proofs.Common.{rules}
use Rattle.tasks.specs.Places.{further}
use Rattle.tasks.proofs.further.Goals as goal

pub returns : goal.returns
unfolding further
returns c = search rules
