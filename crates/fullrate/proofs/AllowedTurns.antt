-- Laws of the loop over the tasks.
use mathlib.Core.Path.{◌≡◌}
use mathlib.Core.Bool.{Bool, true, false, cond}
use Prim.Native.Nat.{ℕ, zero, suc, ◌+◌, ◌≤◌}
use native.Mathlib.Numerals.{add-one}
use native.Mathlib.Omega.{arith}
use Rattle.plans.specs.declared.Plan.{Plan}
use Rattle.dispatch.specs.declared.State.{State}
use Rattle.jobs.specs.declared.Tasks.{Tasks}
use Rattle.fullrate.specs.Allowed.{allowed, with_task, allowed_below}

-- a set has grown by one at most
joined_few : (b : Bool) (u : Tasks) (i : ℕ) → (cond b (with_task u i) u).count ≤ suc u.count
joined_few true u i = omega arith
joined_few false u i = omega arith

pub allowed_few : (p : Plan) (s : State) (k : ℕ) → (allowed_below p s k).count ≤ k
unfolding allowed_below
allowed_few p s zero = omega arith
allowed_few p s (suc k) = omega (arith, joined_few (allowed p s k) (allowed_below p s k) k, allowed_few p s k)

pub allowed_turn : (p : Plan) (s : State) (i : ℕ) (u r : Tasks) (b : Bool) → u ≡ allowed_below p s i → b ≡ allowed p s i → r ≡ cond b (with_task u i) u → r ≡ allowed_below p s (i + 1)
unfolding allowed_below
allowed_turn p s i u r b e h q = rw (add-one, ← e, ← h) q
