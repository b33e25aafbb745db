use mathlib.Core.Path.{◌≡◌, sym, ◌∙◌}
use Rattle.tasks.specs.Answers.{Accepted, Refused}
use Rattle.dispatch.specs.Tick.{judged, tick}
use Rattle.dispatch.proofs.CheckedTick.{Taken, taken}
use Rattle.dispatch.proofs.tick.Goals as goal

pub next-next-requires : goal.next-next-requires
next-next-requires c = let a = c.args in let k : Taken a.plan a.state a.finished a.released = taken a.plan a.state a.finished a.released (sym c.judge.ensures ∙ c.in-Ok.is) in (k.plan, k.state)

pub returns-in-Ok : goal.returns-in-Ok
unfolding tick
returns-in-Ok c =
    let a = c.args in
    let e : judged a.plan a.state a.finished a.released ≡ Accepted = sym c.judge.ensures ∙ c.in-Ok.is in
    rw (e, c.next-next.ensures)

pub returns-in-Err : goal.returns-in-Err
unfolding tick
returns-in-Err c =
    let a = c.args in
    let e : judged a.plan a.state a.finished a.released ≡ Refused c.in-Err.refusal = sym c.judge.ensures ∙ c.in-Err.is in
    rw e
