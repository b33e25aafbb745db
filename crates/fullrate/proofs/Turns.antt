-- A run is a loop that keeps one record.
use mathlib.Core.Path.{◌≡◌, refl, ap}
use Prim.Native.Nat.{ℕ, zero, suc}
use lib.ListN.{replicate}
use Rattle.plans.specs.declared.Plan.{Plan}
use Rattle.dispatch.specs.States.{fresh_state}
use Rattle.board.specs.Kept.{kept_for}
use Rattle.fullrate.specs.Watched.{watch_tick, watched}
use Rattle.fullrate.specs.Watching.{watched_from}

-- a run from a fresh state, seen as a loop that keeps one record
pub watched_kept : (p : Plan) (n : ℕ) → watched_from (record { longest = replicate 64 0 }) p fresh_state n ≡ watched p n
unfolding kept_for watched watch_tick
watched_kept p zero = refl
watched_kept p (suc n) = ap (watch_tick p) (watched_kept p n)
