-- The runner of a core is the highest ranked job there.
use mathlib.Core.Path.{◌≡◌, refl, sym, ap, ◌∙◌}
use mathlib.Core.Bool.{Bool, true, false, ◌&&◌, cond}
use mathlib.Core.Logic.{◌⊎◌, inl, inr}
use Prim.Native.Nat.{ℕ, zero, suc, ◌<◌}
use native.Mathlib.Decide.{ℕ_discrete}
use native.Mathlib.Omega.{arith}
use lib.Dec.{eqb}
use borrow.Author.Tests.{eqb-true}
use Rattle.tasks.specs.Tables.{task_no}
use Rattle.tasks.specs.declared.TaskNo.{TaskNo}
use Rattle.tasks.proofs.Bools.{clash, either, both}
use Rattle.plans.specs.Pieces.{task_of}
use Rattle.plans.specs.Rank.{above}
use Rattle.plans.specs.declared.Plan.{Plan}
use Rattle.plans.proofs.Rank.{above_self, above_chain, above_total}
use Rattle.jobs.specs.Jobs.{is_active, names, Runner, Idle, Runs}
use Rattle.dispatch.specs.States.{job_of}
use Rattle.dispatch.specs.Rules.{piece_at, stands_on, beats, highest}
use Rattle.dispatch.specs.declared.State.{State}

idle_not : {A : Type 0} {t : TaskNo} → Idle ≡ Runs t → A
idle_not h = let z : ◌≡◌ {A = ℕ} 0 1 = cc in absurd (omega arith)

same_task_lem : {t u : TaskNo} → Runs t ≡ Runs u → t.0 ≡ u.0
same_task_lem {t} {u} h = ap (λ (r : TaskNo). r.0) (cc)

alone : (a : Bool) → a && true ≡ false → a ≡ false
alone true h = h
alone false h = refl

-- task k is the best of the first k + 1 on the core
abbrev wins : Plan → State → ℕ → ℕ → Bool
wins p s x k = stands_on p s x k && beats p s k (highest p s x k)

module _ (p : Plan) (s : State) (x : ℕ) where
  -- the runner is one of the tasks, active and at a piece on the core
  pub runner_stands : (k : ℕ) (t : TaskNo) → highest p s x k ≡ Runs t → (t.0 < k) × (stands_on p s x t.0 ≡ true)
  unfolding highest
  runner_stands zero t h = idle_not h
  runner_stands (suc k) t h = go (either (wins p s x k)) h (runner_stands k t)
    where
      go : (wins p s x k ≡ true) ⊎ (wins p s x k ≡ false) → cond (wins p s x k) (Runs (task_no k)) (highest p s x k) ≡ Runs t → (highest p s x k ≡ Runs t → (t.0 < k) × (stands_on p s x t.0 ≡ true)) → (t.0 < suc k) × (stands_on p s x t.0 ≡ true)
      go (inl b) e ih = let q : k ≡ t.0 = same_task_lem (rw b at e) in (omega arith, rw (← q) (both {a = stands_on p s x k} b).0)
      go (inr b) e ih = let r : (t.0 < k) × (stands_on p s x t.0 ≡ true) = ih (rw b at e) in (omega (arith, r.0), r.1)

  -- a core is idle only if no job stands there
  pub idle_none : (k : ℕ) → highest p s x k ≡ Idle → (i : ℕ) → i < k → stands_on p s x i ≡ false
  unfolding highest
  idle_none zero h i l = absurd (omega arith)
  idle_none (suc k) h i l = go (either (wins p s x k)) h (idle_none k)
    where
      go : (wins p s x k ≡ true) ⊎ (wins p s x k ≡ false) → cond (wins p s x k) (Runs (task_no k)) (highest p s x k) ≡ Idle → (highest p s x k ≡ Idle → (i : ℕ) → i < k → stands_on p s x i ≡ false) → stands_on p s x i ≡ false
      go (inl b) e ih = idle_not (sym (rw b at e))
      go (inr b) e ih = by (ℕ_discrete i k)
        where
          none : highest p s x k ≡ Idle
          none = rw b at e

          by : Dec (i ≡ k) → stands_on p s x i ≡ false
          by (no d) = ih none i (omega arith)
          by (yes d) = rw d (alone (stands_on p s x k) (rw none at b))

  -- no job that stands on the core is ranked above the runner
  pub runner_top : (k : ℕ) (t : TaskNo) → highest p s x k ≡ Runs t → (i : ℕ) → i < k → stands_on p s x i ≡ true → above (task_of p) (piece_at p s i) (piece_at p s t.0) ≡ false
  unfolding highest
  runner_top zero t h i l o = absurd (omega arith)
  runner_top (suc k) t h i l o = go (either (wins p s x k)) h (runner_top k)
    where
      Top : TaskNo → Type 0
      Top u = (i : ℕ) → i < k → stands_on p s x i ≡ true → above (task_of p) (piece_at p s i) (piece_at p s u.0) ≡ false

      -- the new runner, above the old one or after none
      below : (r : Runner) → highest p s x k ≡ r → beats p s k r ≡ true → ((u : TaskNo) → highest p s x k ≡ Runs u → Top u) → i < k → above (task_of p) (piece_at p s i) (piece_at p s k) ≡ false
      below Idle e b ih j = clash o (idle_none k e i j)
      below (Runs u) e b ih j = by (either (above (task_of p) (piece_at p s i) (piece_at p s k)))
        where
          by : (above (task_of p) (piece_at p s i) (piece_at p s k) ≡ true) ⊎ (above (task_of p) (piece_at p s i) (piece_at p s k) ≡ false) → above (task_of p) (piece_at p s i) (piece_at p s k) ≡ false
          by (inr a) = a
          by (inl a) = clash (above_chain (task_of p) (piece_at p s i) (piece_at p s k) (piece_at p s u.0) a b) (ih u e i j o)

      go : (wins p s x k ≡ true) ⊎ (wins p s x k ≡ false) → cond (wins p s x k) (Runs (task_no k)) (highest p s x k) ≡ Runs t → ((u : TaskNo) → highest p s x k ≡ Runs u → Top u) → above (task_of p) (piece_at p s i) (piece_at p s t.0) ≡ false
      go (inl b) e ih = by (ℕ_discrete i k)
        where
          q : k ≡ t.0
          q = same_task_lem (rw b at e)

          by : Dec (i ≡ k) → above (task_of p) (piece_at p s i) (piece_at p s t.0) ≡ false
          by (yes d) = rw (← q, d) (above_self (task_of p) (piece_at p s k))
          by (no d) = rw (← q) (below (highest p s x k) refl (both {a = stands_on p s x k} b).1 ih (omega arith))
      go (inr b) e ih = by (ℕ_discrete i k)
        where
          old : highest p s x k ≡ Runs t
          old = rw b at e

          by : Dec (i ≡ k) → above (task_of p) (piece_at p s i) (piece_at p s t.0) ≡ false
          by (no d) = ih t old i (omega arith) o
          by (yes d) = rw d (rw (old, rw d at o) at b)

-- a core on which task t runs: t is one of the tasks, active and at a piece on that core
pub record OnCore (p : Plan) (s : State) (n x t : ℕ) : Type 0 where
  pub below : t < n
  pub active : is_active (job_of s t).phase ≡ true
  pub core : (piece_at p s t).core.0 ≡ x

pub runs_there : (p : Plan) (s : State) (n x t : ℕ) → names t (highest p s x n) ≡ true → OnCore p s n x t
runs_there p s n x t h = go (highest p s x n) refl h
  where
    go : (r : Runner) → highest p s x n ≡ r → names t r ≡ true → OnCore p s n x t
    go Idle e m = clash m refl
    go (Runs u) e m =
        let q : u.0 ≡ t = eqb-true u.0 t m in
        let a : (u.0 < n) × (stands_on p s x u.0 ≡ true) = runner_stands p s x n u e in
        let b : (is_active (job_of s t).phase ≡ true) × (eqb (piece_at p s t).core.0 x ≡ true) = both (rw q at a.1) in
        record { below = rw q at a.0; active = b.0; core = eqb-true _ _ b.1 }

-- so it runs on no other
pub runs_once : (p : Plan) (s : State) (n x y t : ℕ) → names t (highest p s x n) ≡ true → names t (highest p s y n) ≡ true → x ≡ y
runs_once p s n x y t h e = sym (runs_there p s n x t h).core ∙ (runs_there p s n y t e).core

-- every other task's job on the core is ranked below the runner
pub runner_above : (p : Plan) (s : State) (n x : ℕ) (t : TaskNo) → highest p s x n ≡ Runs t → (i : ℕ) → i < n → stands_on p s x i ≡ true → ((piece_at p s i).task.0 ≡ (piece_at p s t.0).task.0 → ⊥) → above (task_of p) (piece_at p s t.0) (piece_at p s i) ≡ true
runner_above p s n x t h i l o d = go (above_total (task_of p) (piece_at p s i) (piece_at p s t.0) (there i o ∙ sym (there t.0 (runner_stands p s x n t h).1)) d)
  where
    there : (k : ℕ) → stands_on p s x k ≡ true → (piece_at p s k).core.0 ≡ x
    there k m = eqb-true _ _ (both {a = is_active (job_of s k).phase} m).1

    go : (above (task_of p) (piece_at p s i) (piece_at p s t.0) ≡ true) ⊎ (above (task_of p) (piece_at p s t.0) (piece_at p s i) ≡ true) → above (task_of p) (piece_at p s t.0) (piece_at p s i) ≡ true
    go (inl a) = clash a (runner_top p s x n t h i l o)
    go (inr a) = a
