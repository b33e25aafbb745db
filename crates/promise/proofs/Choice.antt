-- Rule 4's choice: of the active jobs at a piece on a core, the one that no other is ranked above.
use mathlib.Core.Path.{◌≡◌, refl, sym, ◌∙◌}
use mathlib.Core.Bool.{true, false}
use Prim.Native.Nat.{ℕ, ◌≤◌, ◌<◌}
use native.Mathlib.Omega.{arith}
use borrow.Author.Tests.{eqb-true}
use Rattle.tasks.proofs.Bools.{both, clash}
use Rattle.plans.specs.Pieces.{task_of}
use Rattle.plans.specs.Rank.{above}
use Rattle.plans.specs.declared.Plan.{Plan}
use Rattle.jobs.specs.Jobs.{is_active, names, Runner, Idle, Runs}
use Rattle.dispatch.specs.States.{job_of}
use Rattle.dispatch.specs.Rules.{piece_at, stands_on, highest}
use Rattle.dispatch.specs.declared.State.{State}
use Rattle.dispatch.proofs.Highest.{idle_none, runner_stands, runner_above}

module _ (p : Plan) (s : State) where
  -- of the first k tasks, t's job stands on core x, and its piece is ranked above that of every other job there
  pub record Picked (x k t : ℕ) : Type 0 where
    pub below : t < k
    pub stands : stands_on p s x t ≡ true
    pub over : (i : ℕ) → i < k → stands_on p s x i ≡ true → (i ≡ t → ⊥) → above (task_of p) (piece_at p s t) (piece_at p s i) ≡ true

  abbrev pub Picks : ℕ → ℕ → Runner → Type 0
  Picks x k Idle = (i : ℕ) → i < k → stands_on p s x i ≡ false
  Picks x k (Runs t) = Picked x k t.0

  -- a task that is named is the one picked
  pub picks_named : (x k i : ℕ) (r : Runner) → Picks x k r → names i r ≡ true → Picked x k i
  picks_named x k i Idle h e = clash refl (sym e)
  picks_named x k i (Runs t) h e = rw (eqb-true t.0 i e) at h

  module _ (own : (i : ℕ) → i < p.count → is_active (job_of s i).phase ≡ true → (piece_at p s i).task.0 ≡ i) where
    pub highest_picks : (x k : ℕ) → k ≤ p.count → Picks x k (highest p s x k)
    highest_picks x k l = go _ refl
      where
        its : (i : ℕ) → i < k → stands_on p s x i ≡ true → (piece_at p s i).task.0 ≡ i
        its i b o = own i (omega arith) (both {a = is_active (job_of s i).phase} o).0

        go : (r : Runner) → highest p s x k ≡ r → Picks x k r
        go Idle e = idle_none p s x k e
        go (Runs t) e =
            let a : (t.0 < k) × (stands_on p s x t.0 ≡ true) = runner_stands p s x k t e in
            record { below = a.0; stands = a.1; over = λ i b o n. runner_above p s k x t e i b o (λ z. n (sym (its i b o) ∙ z ∙ its t.0 a.0 a.1)) }
