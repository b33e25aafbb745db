use mathlib.Core.Path.{sym, ◌∙◌, ◌≡◌}
use Rattle.tasks.proofs.Tables.{bad_cores, bad_count, bad_values, all_good, counts_say}
use native.Mathlib.Omega.{arith}
use Rattle.std.proofs.lemmas.List.{length-take}
use Rattle.tasks.proofs.Slices.{part_read}
use Rattle.tasks.specs.Tables.{no_task}
use Rattle.tasks.proofs.check_tasks.Goals as goal

pub returns-then-not-counts : goal.returns-then-not-counts
returns-then-not-counts c = sym (bad_cores _ _ _ (sym c.counts.ensures ∙ c.if-not-counts.true))

pub returns-then-not-counts-2 : goal.returns-then-not-counts-2
returns-then-not-counts-2 c = sym (bad_count _ _ _ (sym c.counts.ensures ∙ c.if-not-counts.false) (sym c.counts-2.ensures ∙ c.if-not-counts-2.true))

pub returns-then-not-values_fit : goal.returns-then-not-values_fit
returns-then-not-values_fit c =
    let inv = c.loop-i.invariant in
    let r = part_read c.args.count c.args.tasks c.loop-i.i no_task c.loop-i-test.true in
    sym (bad_values c.args.cores c.args.count _ inv.0 inv.1 _ r.0 inv.2 (rw (← r.1) (sym c.values_fit.ensures ∙ c.if-not-values_fit.true)))

pub returns : goal.returns
returns c =
    let inv = c.loop-i.invariant in
    let e : c.loop-i.i ≡ c.args.count = omega (arith, length-take c.args.count c.args.tasks, (counts_say c.args.count 64 inv.1).1, c.loop-i-test.false) in
    sym (all_good _ _ _ inv.0 inv.1 (λ k h. inv.2 k (omega (arith, e))))
