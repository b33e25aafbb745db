use mathlib.Core.Path.{◌≡◌, ap}
use mathlib.Core.List.{◌++◌}
use Prim.Native.Nat.{ℕ, ◌≤◌, ◌+◌, min}
use native.Mathlib.Omega.{arith}
use lib.ListN.{length, get_or}
use Rattle.tasks.specs.Below.{row}
use Rattle.plans.specs.Pieces.{task_of}
use Rattle.texts.proofs.Putting.{has_room, put_short, put_then, put_all, put_row_none, put_row_next}
use Rattle.ticklines.specs.Lines.{totals_text}
use Rattle.ticklines.specs.Responses.{response_text, watched_text}
use Rattle.ticklines.proofs.Lengths.{totals_put, response_few}
use Rattle.ticklines.proofs.watched.Goals as goal

pub returns-then-is_short : goal.returns-then-is_short
returns-then-is_short c = put_short c.args.text.now c.is_short.ensures c.if-is_short.true

pub loop-i-init : goal.loop-i-init
loop-i-init c =
    let p = totals_put c.args.watched.state c.is_short.ensures c.if-is_short.false c.totals.ensures in
    put_row_none c.totals.new.text 86 _ (omega (arith, p.end, p.few, p.room, p.size))

pub loop-i-preserved : goal.loop-i-preserved
loop-i-preserved c =
    let room : c.args.text.now.end + 5563 ≤ length c.args.text.now.bytes.now = has_room c.is_short.ensures c.if-is_short.false in
    let p = totals_put c.args.watched.state c.is_short.ensures c.if-is_short.false c.totals.ensures in
    put_row_next 86 (λ k. response_text k (get_or c.args.watched.longest k 0) (task_of c.args.plan k).deadline) c.loop-i.i c.loop-i.invariant (response_few _ _ _) (omega (arith, p.end, p.few, p.size, c.min-i-end.ensures, c.loop-i-test.true)) c.response.ensures

pub returns : goal.returns
unfolding watched_text
returns c =
    let room : c.args.text.now.end + 5563 ≤ length c.args.text.now.bytes.now = has_room c.is_short.ensures c.if-is_short.false in
    let p = totals_put c.args.watched.state c.is_short.ensures c.if-is_short.false c.totals.ensures in
    let e : c.loop-i.i ≡ min c.args.plan.count 64 = omega (arith, c.min-i-end.ensures, c.loop-i-test.false) in
    put_all (put_then p c.loop-i.invariant 5563 (omega arith) room) _ (ap (λ (n : ℕ). totals_text c.args.watched.state ++ row n (λ k. response_text k (get_or c.args.watched.longest k 0) (task_of c.args.plan k).deadline)) e) 5563 room
