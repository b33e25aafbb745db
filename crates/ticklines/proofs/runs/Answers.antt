use mathlib.Core.Path.{◌≡◌, ap, ◌∙◌}
use mathlib.Core.List.{◌++◌, append_assoc}
use Prim.Native.Nat.{ℕ, ◌≤◌, ◌+◌, ◌*◌, ◌<◌, min}
use native.Mathlib.Omega.{arith}
use lib.ListN.{length, get_or}
use Rattle.tasks.specs.Below.{row}
use Rattle.tasks.proofs.Slices.{part_read}
use Rattle.jobs.specs.Jobs.{no_run}
use Rattle.texts.proofs.Putting.{has_room, put_short, put_next, put_same, put_all, put_words, put_row_none, row_next}
use Rattle.texts.specs.Text.{ascii}
use Rattle.ticklines.specs.Lines.{gap_text, runner_text, runs_text}
use Rattle.ticklines.proofs.Lengths.{gap_few, runner_few}
use Rattle.ticklines.proofs.runs.Goals as goal

pub returns-then-is_short : goal.returns-then-is_short
returns-then-is_short c = put_short c.args.text.now c.is_short.ensures c.if-is_short.true

pub loop-x-init : goal.loop-x-init
loop-x-init c =
    let room : c.args.text.now.end + 337 ≤ length c.args.text.now.bytes.now = has_room c.is_short.ensures c.if-is_short.false in
    put_row_none _ 21 _ (omega arith)

pub loop-x-preserved : goal.loop-x-preserved
loop-x-preserved c =
    let room : c.args.text.now.end + 337 ≤ length c.args.text.now.bytes.now = has_room c.is_short.ensures c.if-is_short.false in
    let r = part_read c.min.result c.args.ran.runs c.loop-x.x no_run c.loop-x-test.true in
    let below : c.loop-x.x < 16 = omega (arith, r.0, c.min.ensures) in
    let f = λ (y : ℕ). gap_text y ++ runner_text (get_or c.args.ran.runs y no_run) in
    let gap = put_next c.loop-x.invariant (c.loop-x.x * 21 + 1) 1 (gap_text c.loop-x.x) (gap_few c.loop-x.x) c.gap.ensures (omega arith) (omega arith) in
    put_same (put_next gap (c.loop-x.x * 21 + 21) 20 (runner_text (get_or c.args.ran.runs c.loop-x.x no_run)) (runner_few (get_or c.args.ran.runs c.loop-x.x no_run)) (rw r.1 at c.on_core.ensures) (omega arith) (omega arith)) (row (c.loop-x.x + 1) f) (append_assoc (row c.loop-x.x f) (gap_text c.loop-x.x) _ ∙ row_next f c.loop-x.x) ((c.loop-x.x + 1) * 21) (omega arith) (omega arith)

pub returns : goal.returns
unfolding runs_text ascii
returns c =
    let room : c.args.text.now.end + 337 ≤ length c.args.text.now.bytes.now = has_room c.is_short.ensures c.if-is_short.false in
    let e : c.loop-x.x ≡ min c.args.cores 16 = omega (arith, c.min.ensures, c.loop-x-test.false) in
    put_all (put_words c.loop-x.invariant 337 (ascii "\n") c.words.ensures (omega arith) room) _ (ap (λ (n : ℕ). row n (λ y. gap_text y ++ runner_text (get_or c.args.ran.runs y no_run)) ++ ascii "\n") e) 337 room
