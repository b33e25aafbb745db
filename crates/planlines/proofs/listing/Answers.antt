use mathlib.Core.Path.{◌≡◌, ap}
use mathlib.Core.List.{◌++◌}
use Prim.Native.Nat.{ℕ, ◌≤◌, ◌+◌, min}
use native.Mathlib.Omega.{arith}
use lib.ListN.{length}
use Rattle.tasks.specs.Below.{row}
use Rattle.tasks.proofs.Slices.{part_read}
use Rattle.plans.specs.Pieces.{no_piece, piece_of}
use Rattle.texts.proofs.Putting.{has_room, put_short, put_then, put_all, put_row_none, put_row_next}
use Rattle.planlines.specs.Listing.{head_text, piece_text, listing_text}
use Rattle.planlines.proofs.Lengths.{head_put, piece_few}
use Rattle.planlines.proofs.listing.Goals as goal

pub returns-then-is_short : goal.returns-then-is_short
returns-then-is_short c = put_short c.args.text.now c.is_short.ensures c.if-is_short.true

pub loop-z-init : goal.loop-z-init
loop-z-init c =
    let p = head_put c.args.plan.cores c.args.plan.count c.is_short.ensures c.if-is_short.false c.head.ensures in
    put_row_none c.head.new.text 69 _ (omega (arith, p.end, p.few, p.room, p.size))

pub loop-z-preserved : goal.loop-z-preserved
loop-z-preserved c =
    let room : c.args.text.now.end + 8886 ≤ length c.args.text.now.bytes.now = has_room c.is_short.ensures c.if-is_short.false in
    let p = head_put c.args.plan.cores c.args.plan.count c.is_short.ensures c.if-is_short.false c.head.ensures in
    let r = part_read c.min.result c.args.plan.pieces c.loop-z.z-index no_piece c.loop-z-test.true in
    put_row_next 69 (λ k. piece_text (piece_of c.args.plan k)) c.loop-z.z-index c.loop-z.invariant (piece_few _) (omega (arith, p.end, p.few, p.size, r.0, c.min.ensures)) (rw r.1 at c.piece.ensures)

pub returns : goal.returns
unfolding listing_text
returns c =
    let room : c.args.text.now.end + 8886 ≤ length c.args.text.now.bytes.now = has_room c.is_short.ensures c.if-is_short.false in
    let p = head_put c.args.plan.cores c.args.plan.count c.is_short.ensures c.if-is_short.false c.head.ensures in
    let e : c.loop-z.z-index ≡ min c.args.plan.placed 128 = omega (arith, c.min.ensures, c.loop-z-test.false) in
    put_all (put_then p c.loop-z.invariant 8886 (omega arith) room) _ (ap (λ (n : ℕ). head_text c.args.plan.cores c.args.plan.count ++ row n (λ k. piece_text (piece_of c.args.plan k))) e) 8886 room
