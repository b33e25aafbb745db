use mathlib.Core.Path.{◌≡◌, refl, ap, ◌∙◌}
use Prim.Native.Nat.{ℕ, ◌≤◌, ◌+◌}
use native.Mathlib.Omega.{arith}
use lib.ListN.{length}
use Rattle.tasks.specs.Below.{row}
use Rattle.fullrate.specs.FullRate.{full_tick, state_after}
use Rattle.texts.proofs.Putting.{has_room, put_short, put_next, put_same, put_all, put_row_none, put_row_next}
use Rattle.ticklines.specs.Lines.{ticked_text, totals_text}
use Rattle.ticklines.specs.Running.{run_text}
use Rattle.ticklines.proofs.Lengths.{ticked_few, totals_few, next_state_lem}
use Rattle.ticklines.proofs.run.Goals as goal

pub returns-then-is_short : goal.returns-then-is_short
returns-then-is_short c = put_short c.args.text.now c.is_short.ensures c.if-is_short.true

pub loop-n-init : goal.loop-n-init
unfolding state_after
loop-n-init c =
    let room : c.args.text.now.end + 6799 ≤ length c.args.text.now.bytes.now = has_room c.is_short.ensures c.if-is_short.false in
    (c.fresh-state.ensures, put_row_none _ 337 _ (omega arith))

pub loop-n-preserved : goal.loop-n-preserved
loop-n-preserved c =
    let room : c.args.text.now.end + 6799 ≤ length c.args.text.now.bytes.now = has_room c.is_short.ensures c.if-is_short.false in
    let s : c.full_tick-made.result ≡ full_tick c.args.plan (state_after c.args.plan c.loop-n._n) = c.full_tick-made.ensures ∙ ap (full_tick c.args.plan) c.loop-n.invariant.0 in
    (next_state_lem c.args.plan c.loop-n._n _ s, put_row_next 337 (λ k. ticked_text c.args.plan.cores (full_tick c.args.plan (state_after c.args.plan k))) _ c.loop-n.invariant.1 (ticked_few c.args.plan.cores (full_tick c.args.plan (state_after c.args.plan c.loop-n._n))) (omega (arith, c.loop-n-test.true)) (rw s at c.ticked.ensures))

pub returns : goal.returns
unfolding run_text
returns c =
    let room : c.args.text.now.end + 6799 ≤ length c.args.text.now.bytes.now = has_room c.is_short.ensures c.if-is_short.false in
    let e : c.loop-n._n ≡ 20 = omega (arith, c.loop-n-test.false) in
    let s : c.loop-n.state ≡ state_after c.args.plan 20 = c.loop-n.invariant.0 ∙ ap (state_after c.args.plan) e in
    let lines = put_same c.loop-n.invariant.1 (row 20 (λ k. ticked_text c.args.plan.cores (full_tick c.args.plan (state_after c.args.plan k)))) (ap (λ (n : ℕ). row n (λ k. ticked_text c.args.plan.cores (full_tick c.args.plan (state_after c.args.plan k)))) e) 6740 (omega (arith, e)) (omega arith) in
    put_all (put_next lines 6799 59 (totals_text (state_after c.args.plan 20)) (totals_few (state_after c.args.plan 20)) (rw s at c.totals.ensures) (omega arith) room) _ refl 6799 room
