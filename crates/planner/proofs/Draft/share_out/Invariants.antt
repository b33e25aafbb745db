use Prim.Native.Nat.{◌≤◌}
use mathlib.Core.Path.{◌≡◌}
use Rattle.planner.specs.Limit.{limit_of}
use Rattle.planner.proofs.Searching.{Sharing}
use Rattle.planner.proofs.Draft.share_out.Given as goal

abbrev pub invariant-loop-q : goal.invariant-loop-q
invariant-loop-q l = (1 ≤ l.most) × (l.most ≡ limit_of l.next.plan l.p l.x l.q)

abbrev pub invariant-cores : goal.invariant-cores
invariant-cores l = Sharing l.fn.self l.task.0 l.p l.need l.next l.x
