-- What a job still needs at its last piece q, and how long ago it came there; a task without a job at q needs the whole cost.
use mathlib.Core.Path.{◌≡◌, refl, sym, ap, ◌∙◌}
use mathlib.Core.Logic.{◌⊎◌, inl, inr}
use mathlib.Core.Bool.{Bool, true, false, cond}
use Prim.Native.Nat.{ℕ, suc, ◌+◌, ◌-◌, ◌≤◌, ◌<◌}
use native.Mathlib.Decide.{ℕ_discrete}
use native.Mathlib.Nat.{le_refl}
use native.Mathlib.Omega.{arith}
use lib.Dec.{ltb, eqb}
use borrow.Author.Tests.{eq-eqb, ne_eqb, eqb-true, ltb-false}
use Rattle.tasks.proofs.Bools.{clash}
use Rattle.schedules.specs.Model.{Stage, never, active, ended, Model, Sound, at, older, onward, run, release}
use Rattle.schedules.proofs.Stage.{Good}

module _ (M : Model) (q : ℕ) where
  unfoldable pub need : Stage → ℕ
  need never = M.cost q
  need (ended a) = M.cost q
  need (active a k r) = cond (eqb k q) (M.cost q - r) (M.cost q)

  unfoldable pub gone : Stage → ℕ
  gone never = 0
  gone (ended a) = 0
  gone (active a k r) = cond (eqb k q) (a - M.off q) 0

  -- nothing is used up yet
  pub record New (o : Stage) : Type 0 where
    pub whole : need o ≡ M.cost q
    pub now : gone o ≡ 0

  pub new_away : (o : Stage) → at q o ≡ false → New o
  unfolding need gone at
  new_away never e = record { whole = refl; now = refl }
  new_away (ended a) e = record { whole = refl; now = refl }
  new_away (active a k r) e = record { whole = rw e; now = rw e }

  new_at : (a k : ℕ) → (k ≡ q → a ≤ M.off q) → New (active a k 0)
  unfolding need gone
  new_at a k h = go (ℕ_discrete k q)
    where
      go : Dec (k ≡ q) → New (active a k 0)
      go (yes e) = record { whole = rw (eq-eqb k q e) (omega arith); now = rw (eq-eqb k q e) (omega (arith, h e)) }
      go (no e) = record { whole = rw (ne_eqb k q e); now = rw (ne_eqb k q e) }

  pub new_release : (i : ℕ) → New (release M i)
  unfolding release
  new_release i = new_at 0 (M.first i) (λ e. omega arith)

  module _ (S : Sound M) (known : q < M.pieces) (i : ℕ) where
    -- a tick before which no job was at q
    pub own_away : (b : Bool) (o : Stage) → Good M i o → at q o ≡ false → New (run M i b o)
    unfolding run onward at
    own_away false never g e = new_away never refl
    own_away true never g e = new_away never refl
    own_away false (ended a) g e = new_away (ended _) refl
    own_away true (ended a) g e = new_away (ended _) refl
    own_away false (active a k r) g e = new_away (active _ k r) e
    own_away true (active a k r) g e = go _ _ refl refl
      where
        go : (c z : Bool) → ltb (suc r) (M.cost k) ≡ c → M.last k ≡ z → New (onward M c z (older M i a) k (suc r))
        go true z t y = new_away (active _ k (suc r)) e
        go false true t y = new_away (ended _) refl
        go false false t y =
            new_at (older M i a) (suc k) (λ w.
            let n : M.off q ≡ M.off k + M.cost k = ap M.off (sym w) ∙ (S.next k g.known y).2 in
            omega (arith, g.exact y, g.part, ltb-false (suc r) (M.cost k) t))

    pub need_pos : (o : Stage) → Good M i o → 0 < need o
    unfolding need
    need_pos never g = S.some q known
    need_pos (ended a) g = S.some q known
    need_pos (active a k r) g = go (ℕ_discrete k q)
      where
        go : Dec (k ≡ q) → 0 < cond (eqb k q) (M.cost q - r) (M.cost q)
        go (yes e) = rw (eq-eqb k q e) (omega (arith, g.part, ap M.cost e))
        go (no e) = rw (ne_eqb k q e) (S.some q known)

    -- a tick in which the job does not run
    pub own_stop : (o : Stage) → (need (run M i false o) ≤ need o) × (gone (run M i false o) ≤ gone o + 1)
    unfolding run need gone older
    own_stop never = omega arith
    own_stop (ended a) = omega arith
    own_stop (active a k r) = (le_refl _, go (eqb k q))
      where
        go : (b : Bool) → cond b (older M i a - M.off q) 0 ≤ cond b (a - M.off q) 0 + 1
        go true = omega arith
        go false = omega arith

    -- a tick in which the job runs at q
    pub own_run : (o : Stage) → Good M i o → M.last q ≡ true → at q o ≡ true → New (run M i true o) ⊎ ((need (run M i true o) + 1 ≤ need o) × (gone (run M i true o) ≤ gone o + 1))
    unfolding run need gone older at onward
    own_run never g z e = clash e refl
    own_run (ended a) g z e = clash e refl
    own_run (active a k r) g z e = go _ _ refl refl
      where
        k≡q : k ≡ q
        k≡q = eqb-true k q e

        go : (c y : Bool) → ltb (suc r) (M.cost k) ≡ c → M.last k ≡ y → New (onward M c y (older M i a) k (suc r)) ⊎ ((need (onward M c y (older M i a) k (suc r)) + 1 ≤ need (active a k r)) × (gone (onward M c y (older M i a) k (suc r)) ≤ gone (active a k r) + 1))
        go true y t l = inr (rw e (omega (arith, g.part, ap M.cost k≡q)))
        go false true t l = inl (new_away (ended _) refl)
        go false false t l = clash z (ap M.last (sym k≡q) ∙ l)
