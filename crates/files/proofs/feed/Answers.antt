use Rattle.files.proofs.Fields.{reader, read_more, read_done, read_refused, settled_bad, good_room}
use Rattle.files.specs.Fields.{read, settled}
use lib.ListN.{drop}
use Prim.Native.Nat.{◌+◌}
use mathlib.Core.Path.{◌≡◌, sym, ap, ◌∙◌}
use Rattle.files.proofs.feed.Goals as goal
use Rattle.files.proofs.feed.Goals.{Joined-found-eq0, then-found-eq0, else-found-eq0+then-found-ne1, else-found-eq0+else-found-ne1}

pub add_to-requires : goal.add_to-requires
add_to-requires c = good_room _ _ (sym c.verdict-found.ensures ∙ c.if-found-eq0.true)

-- what the verdict makes of the reader
settles : (c : Joined-found-eq0) → reader c.if-found-eq0.f c.if-found-eq0.plan ≡ settled c.verdict-found.result c.hold-f.result c.loop-byte.plan
settles c =
    elim c.if-found-eq0.branch [
      | then-found-eq0 w ↦ rw (w.f-is, w.plan-is, w.if-found-eq0.true, w.next-f.ensures, w.add_to.ensures)
      | else-found-eq0+then-found-ne1 w ↦ rw (w.f-is, w.plan-is, settled_bad c.verdict-found.result c.hold-f.result c.loop-byte.plan w.if-found-eq0.false w.if-found-ne1.true)
      | else-found-eq0+else-found-ne1 w ↦ rw (w.f-is, w.plan-is, w.if-found-ne1.false)
    ]

pub loop-byte-preserved : goal.loop-byte-preserved
loop-byte-preserved c =
    let l = c.loop-byte in
    ap (λ r. read r (drop (l.byte-index + 1) c.args.part.now)) (settles c)
    ∙ read_more l.f l.plan c.args.part.now l.byte-index _ _ (read c.args.reader c.args.part.now) c.loop-byte-test.true c.if-f-ne0.false c.hold-f.ensures c.verdict-found.ensures l.invariant

pub returns-after-loop-byte : goal.returns-after-loop-byte
returns-after-loop-byte c = sym (read_done _ c.args.part.now c.loop-byte.byte-index c.loop-byte-test.false) ∙ c.loop-byte.invariant

pub returns-then-f-ne0 : goal.returns-then-f-ne0
returns-then-f-ne0 c = sym (read_refused _ _ _ c.if-f-ne0.true) ∙ c.loop-byte.invariant
