use mathlib.Core.Path.{refl}
use borrow.Author.Rules.{rules}
use Rattle.dispatch.proofs.Judging.{judged_ran, judged_soon, judged_active, judged_well}
use Rattle.dispatch.proofs.judge_sets.Goals as goal

pub returns-in-Some : goal.returns-in-Some
returns-in-Some c = let a = c.args in judged_ran a.plan a.state a.finished a.released _ (c.lowest_not_run.ensures a.plan a.state refl refl refl) c.in-Some.task c.in-Some.is (search rules)

pub returns-in-Some-soon : goal.returns-in-Some-soon
returns-in-Some-soon c =
    let a = c.args in
    let r = c.lowest_early-soon.result in
    let h = c.lowest_early-soon.ensures in
    judged_soon a.plan a.state a.finished a.released _ (c.lowest_not_run.ensures a.plan a.state refl refl refl) c.in_default.is r.0 r.1 h.soon h.active c.in-Some-soon.task c.in-Some-soon.is (search rules)

pub returns-in-Some-active : goal.returns-in-Some-active
returns-in-Some-active c =
    let a = c.args in
    let r = c.lowest_early-soon.result in
    let h = c.lowest_early-soon.ensures in
    judged_active a.plan a.state a.finished a.released _ (c.lowest_not_run.ensures a.plan a.state refl refl refl) c.in_default.is r.0 r.1 h.soon h.active c.in_default-soon.is c.in-Some-active.task c.in-Some-active.is (search rules)

pub returns : goal.returns
returns c =
    let a = c.args in
    let r = c.lowest_early-soon.result in
    let h = c.lowest_early-soon.ensures in
    judged_well a.plan a.state a.finished a.released _ (c.lowest_not_run.ensures a.plan a.state refl refl refl) c.in_default.is r.0 r.1 h.soon h.active c.in_default-soon.is c.in_default-active.is
