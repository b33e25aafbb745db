-- A job since its release: how old it is, how many ticks it has run, and why it has ended.
use mathlib.Core.Path.{◌≡◌, refl, sym, ap}
use mathlib.Core.Logic.{◌⊎◌, inl, inr}
use mathlib.Core.Bool.{Bool, true, false, cond}
use Prim.Native.Nat.{ℕ, suc, ◌+◌, ◌≤◌, ◌<◌, min}
use native.Mathlib.Omega.{arith}
use lib.Dec.{ltb}
use borrow.Author.Tests.{ltb-false}
use Rattle.tasks.proofs.Bools.{clash}
use Rattle.schedules.specs.Model.{Stage, never, active, ended, Model, Sound, older, onward, finish, release, run, May}
use Rattle.schedules.specs.Moments.{Moment, goes, goes_at, finished, released, ticked, tick, Accepted}
use Rattle.schedules.proofs.Stage.{Good, good_finish, good_release}

-- one for a test that passes
abbrev pub one : Bool → ℕ
one b = cond b 1 0

-- it has run its whole cost, or less, and then it was finished
abbrev pub Why : (cost finishes ran : ℕ) → Type 0
Why c f w = (w ≡ c) ⊎ ((w < c) × (1 ≤ f))

why_more : (c f w k : ℕ) → Why c f w → Why c (f + k) w
why_more c f w k (inl e) = inl e
why_more c f w k (inr e) = inr (e.0, omega arith)

-- task i's job x ticks after its release, with f finishes since and w ticks run
abbrev pub Since : (M : Model) (cost : ℕ → ℕ) (i x f w : ℕ) → Stage → Type 0
Since M cost i x f w never = ⊥
Since M cost i x f w (active a k r) = (a ≡ x) × (w ≡ M.off k + r)
Since M cost i x f w (ended a) = (a ≡ x) × Why (cost i) f w

module _ (M : Model) (S : Sound M) (cost : ℕ → ℕ) (within : (k : ℕ) → k < M.pieces → M.off k + M.cost k ≤ cost (M.task k)) (full : (k : ℕ) → k < M.pieces → M.last k ≡ true → M.off k + M.cost k ≡ cost (M.task k)) where
  since_finish : (i x f w : ℕ) (b : Bool) (o : Stage) → Good M i o → Since M cost i x f w o → Since M cost i x (f + one b) w (cond b (finish o) o)
  unfolding finish
  since_finish i x f w b never g h = absurd h
  since_finish i x f w true (ended a) g h = (h.0, why_more (cost i) f w 1 h.1)
  since_finish i x f w false (ended a) g h = (h.0, why_more (cost i) f w 0 h.1)
  since_finish i x f w true (active a k r) g h = (h.0, inr (omega (arith, within k g.known, g.part, ap cost g.own), omega arith))
  since_finish i x f w false (active a k r) g h = h

  since_run : (i x f w : ℕ) (b : Bool) (o : Stage) → Good M i o → ((a : ℕ) → o ≡ ended a → b ≡ false) → x < M.period i → Since M cost i x f w o → Since M cost i (suc x) f (w + one b) (run M i b o)
  unfolding run older onward
  since_run i x f w b never g n l h = absurd h
  since_run i x f w true (ended a) g n l h = clash refl (n a refl)
  since_run i x f w false (ended a) g n l h = (omega (arith, h.0), same h.1)
    where
      same : Why (cost i) f w → Why (cost i) f (w + 0)
      same (inl e) = inl (omega arith)
      same (inr e) = inr (omega arith, e.1)
  since_run i x f w false (active a k r) g n l h = (omega (arith, h.0), omega (arith, h.1))
  since_run i x f w true (active a k r) g n l h = go _ _ refl refl
    where
      go : (c z : Bool) → ltb (suc r) (M.cost k) ≡ c → M.last k ≡ z → Since M cost i (suc x) f (w + 1) (onward M c z (min (suc a) (M.period i)) k (suc r))
      go true z t y = (omega (arith, h.0), omega (arith, h.1))
      go false true t y = (omega (arith, h.0), inl (omega (arith, h.1, full k g.known y, ap cost g.own, ltb-false (suc r) (M.cost k) t, g.part)))
      go false false t y = (omega (arith, h.0), omega (arith, h.1, (S.next k g.known y).2, ltb-false (suc r) (M.cost k) t, g.part))

  -- a task may not be released again before its period is over
  unreleased : (i x f w : ℕ) (o : Stage) → x < M.period i → Since M cost i x f w o → May M i o → ⊥
  unreleased i x f w never l h m = h
  unreleased i x f w (ended a) l h m = omega (arith, h.0)
  unreleased i x f w (active a k r) l h m = m

  ended_stays : (o : ℕ → Stage) (i a : ℕ) → o i ≡ ended a → goes M o i ≡ false
  unfolding goes goes_at
  ended_stays o i a e = rw e

  module _ (i : ℕ) (known : i < M.tasks) (fs rs : ℕ → Bool) (s : Moment) (ok : Accepted M fs rs s) (good : Good M i (s.stage i)) where
    -- the jobs from which the runners are chosen
    abbrev chosen : ℕ → Stage
    chosen = released M rs (finished M fs s.stage)

    good_finished : (b : Bool) → Good M i (cond b (finish (s.stage i)) (s.stage i))
    good_finished true = good_finish M S i (s.stage i) good
    good_finished false = good

    -- one accepted tick more
    pub since_tick : (x f w : ℕ) → x < M.period i → Since M cost i x f w (s.stage i) → Since M cost i (suc x) (f + one (fs i)) (w + one (goes M chosen i)) ((tick M fs rs s).stage i)
    unfolding tick ticked released finished
    since_tick x f w l h = since_run i x (f + one (fs i)) w _ _ (on (rs i) refl).0 (λ a e. ended_stays chosen i a e) l (on (rs i) refl).1
      where
        done : Since M cost i x (f + one (fs i)) w (cond (fs i) (finish (s.stage i)) (s.stage i))
        done = since_finish i x f w (fs i) (s.stage i) good h

        on : (b : Bool) → rs i ≡ b → Good M i (cond b (release M i) (finished M fs s.stage i)) × Since M cost i x (f + one (fs i)) w (cond b (release M i) (finished M fs s.stage i))
        on true e = absurd (unreleased i x (f + one (fs i)) w (finished M fs s.stage i) l done (ok.begun i known e))
        on false e = (good_finished (fs i), done)

    -- the accepted tick of its release
    pub since_release : 0 < M.period i → rs i ≡ true → Since M cost i 1 0 (0 + one (goes M chosen i)) ((tick M fs rs s).stage i)
    unfolding tick ticked released finished release
    since_release l e = since_run i 0 0 0 _ _ (on (rs i) e).0 (λ a e. ended_stays chosen i a e) l (on (rs i) e).1
      where
        on : (b : Bool) → b ≡ true → Good M i (cond b (release M i) (finished M fs s.stage i)) × Since M cost i 0 0 0 (cond b (release M i) (finished M fs s.stage i))
        on true e = (good_release M S i known, (refl, omega (arith, (S.begins i known).2)))
        on false e = clash refl (sym e)
