use mathlib.Core.Path.{◌≡◌, ap}
use Prim.Native.Nat.{ℕ, min}
use native.Mathlib.Omega.{arith}
use Rattle.tasks.specs.Below.{padded}
use Rattle.tasks.specs.Tables.{task_no}
use Rattle.tasks.specs.declared.TaskNo.{TaskNo}
use Rattle.tasks.proofs.Padded.{padded_length, padded_in, padded_out, padded_is, padded_turn}
use Rattle.tasks.proofs.Tabulate.{padded_start}
use Rattle.playback.specs.Requests.{tasks_at}
use Rattle.playback.proofs.tasks_at.Goals as goal

-- a list of 64 has no more than 64 entries
all_there : (n : ℕ) (f : ℕ → TaskNo) → padded 64 (min n 64) (task_no 0) f ≡ padded 64 n (task_no 0) f
all_there n f = padded_is 64 (task_no 0) n f _ (padded_length 64 (task_no 0) (min n 64) f) (λ i l b. padded_in 64 (task_no 0) (min n 64) f i (omega arith) b) (λ i l b. padded_out 64 (task_no 0) (min n 64) f i (omega arith))

pub loop-k-init : goal.loop-k-init
loop-k-init c = padded_start 64 (task_no 0) _

pub loop-k-preserved : goal.loop-k-preserved
loop-k-preserved c = padded_turn 64 (task_no 0) _ _ _ _ (omega (arith, c.min-k-end.ensures, c.loop-k-test.true)) c.loop-k.invariant (ap task_no c.byte_at.ensures.0)

pub returns : goal.returns
unfolding tasks_at
returns c =
    let e : c.loop-k.k ≡ min c.byte_at-count.result 64 = omega (arith, c.min-k-end.ensures, c.loop-k-test.false) in
    simp (c.loop-k.invariant, e, all_there, c.byte_at-count.ensures.0)
