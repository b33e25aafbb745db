use borrow.Author.Tests.{le-ltb, lt-ltb}
use Rattle.playback.specs.Requests.{request_size, request_answer}
use Rattle.playback.proofs.judge.Goals as goal

pub returns-then-a-b : goal.returns-then-a-b
unfolding request_answer request_size
returns-then-a-b c = simp (← c.byte_at-a.ensures.0, ← c.byte_at-b.ensures.0, c.if-a-b.true)

pub returns-then-bytes-size : goal.returns-then-bytes-size
unfolding request_answer request_size
returns-then-bytes-size c = simp (← c.byte_at-a.ensures.0, ← c.byte_at-b.ensures.0, c.if-a-b.false, lt-ltb _ _ c.if-bytes-size.true)

pub returns : goal.returns
unfolding request_answer request_size
returns c = simp (← c.byte_at-a.ensures.0, ← c.byte_at-b.ensures.0, c.if-a-b.false, le-ltb _ _ c.if-bytes-size.false)
