use mathlib.Core.Path.{◌≡◌}
use Rattle.tasks.specs.Below.{count as counted}
use Rattle.dispatch.specs.States.{job_of}
use Rattle.dispatch.proofs.InPlace.{changed}
use Rattle.dispatch.proofs.Reading.{turns_at, marked_at}
use Rattle.dispatch.proofs.State.mark_late.Given as goal

abbrev pub invariant-loop-i : goal.invariant-loop-i
invariant-loop-i l = (l.late ≡ counted l.i (λ k. turns_at l.fn.tasks k (job_of l.fn.self k))) × (l.self ≡ changed (marked_at l.fn.tasks) l.fn.self l.i)
