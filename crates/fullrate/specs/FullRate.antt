-- Ticks at full rate: every task is released as soon as allowed, and none is finished.
use Rattle.std.specs.Prelude.{ℕ, zero, suc}
use Rattle.plans.specs.declared.Plan.{Plan}
use Rattle.dispatch.specs.States.{fresh_state}
use Rattle.dispatch.specs.declared.State.{State}
use Rattle.fullrate.specs.Allowed.{no_tasks, allowed_set}
use Rattle.dispatch.specs.Tick.{tick}
use Rattle.dispatch.specs.declared.Ticked.{Ticked}

-- a tick in which every task is released that may be, and none is finished
abbrev pub full_tick : Plan → State → Ticked
full_tick p s = tick p s no_tasks (allowed_set p s)

-- the state after n such ticks, from a fresh one
unfoldable pub state_after : Plan → ℕ → State
state_after p zero = fresh_state
state_after p (suc n) = (full_tick p (state_after p n)).state
