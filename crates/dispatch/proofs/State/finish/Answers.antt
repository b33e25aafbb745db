use mathlib.Core.Bool.{false}
use mathlib.Core.Path.{◌≡◌}
use native.Mathlib.Omega.{arith}
use Rattle.tasks.proofs.Padded.{padded_turn}
use Rattle.tasks.proofs.Tabulate.{padded_start}
use Rattle.jobs.specs.Jobs.{no_job}
use Rattle.dispatch.specs.Rules.{finish, each_job}
use Rattle.jobs.specs.Sets.{member}
use Rattle.jobs.proofs.Walks.{tabulated}
use Rattle.dispatch.proofs.State.finish.Goals as goal

pub loop-i-init : goal.loop-i-init
loop-i-init c = padded_start 64 no_job _

pub loop-i-preserved : goal.loop-i-preserved
loop-i-preserved c =
    let fs = c.args.finished in
    padded_turn 64 no_job _ _ _ _ (omega arith) c.loop-i.invariant (c.finished_job.ensures fs _ (tabulated 256 (member fs) _ _ false c.marks-marks.ensures (omega arith)))

pub returns : goal.returns
unfolding finish each_job
returns c = λ p h. let e : c.loop-i.i ≡ c.args.count = omega (arith, c.loop-i.auto.i-end) in rw (c.loop-i.invariant, e, h)
