-- One task's job: how much each piece of its task can still run, and what a tick leaves of that.
use mathlib.Core.Path.{◌≡◌, refl, sym, ap, ◌∙◌}
use mathlib.Core.Bool.{Bool, true, false, cond}
use Prim.Native.Nat.{ℕ, suc, ◌+◌, ◌-◌, ◌≤◌, ◌<◌}
use native.Mathlib.Decide.{dec_lt, ℕ_discrete}
use native.Mathlib.Nat.{le_refl, le_trans}
use native.Mathlib.Omega.{arith}
use lib.Dec.{ltb, eqb}
use borrow.Author.Tests.{lt-ltb, le-ltb, eq-eqb, ne_eqb, ltb-true, ltb-false}
use Rattle.plans.specs.Interference.{interference}
use Rattle.schedules.specs.Model.{Stage, never, active, ended, Model, Sound, at, older, onward, finish, release, run, May}
use Rattle.schedules.proofs.Potential.{potential, potential_less, potential_quiet, potential_fresh, potential_none, Move, passes, comes, move_tick, move_quiet}

-- how long piece j runs in a tick in which its task runs or not
unfoldable pub hit : ℕ → Bool → Stage → ℕ
unfolding at
hit j b o = cond b (cond (at j o) 1 0) 0

hit_one : (j : ℕ) (b : Bool) (o : Stage) → hit j b o ≤ 1
unfolding hit
hit_one j b o = go b (at j o)
  where
    go : (b d : Bool) → cond b (cond d 1 0) 0 ≤ 1
    go true true = omega arith
    go true false = omega arith
    go false d = omega arith

-- where k stands to j
data Stands (k j : ℕ) : Type 0 where
  before : k < j → Stands k j
  here : k ≡ j → Stands k j
  after : j < k → Stands k j

stands : (k j : ℕ) → Stands k j
stands k j = go (dec_lt k j) (ℕ_discrete k j)
  where
    go : Dec (k < j) → Dec (k ≡ j) → Stands k j
    go (yes h) d = before h
    go (no h) (yes q) = here q
    go (no h) (no q) = after (omega arith)

module _ (M : Model) where
  -- ---- what can still run
  unfoldable pub due : ℕ → Stage → ℕ
  due j never = 0
  due j (ended a) = 0
  due j (active a k r) = cond (eqb k j) (M.cost j - r) 0

  unfoldable pub wait : ℕ → Stage → ℕ
  wait j never = M.off j
  wait j (ended a) = M.period (M.task j) - a + M.off j
  wait j (active a k r) = cond (ltb k j) (M.off j - a) (M.period (M.task j) - a + M.off j)

  unfoldable pub can : ℕ → Stage → ℕ → ℕ
  unfolding due wait
  can j o l = potential (M.cost j) (M.period (M.task j)) (due j o) (wait j o) l

  -- ---- what a tick keeps of a job of task i
  pub record Steady (i a k r : ℕ) : Type 0 where
    pub known : k < M.pieces
    pub own : M.task k ≡ i
    pub part : r < M.cost k
    pub exact : M.last k ≡ false → a ≡ M.off k + r

  -- a job that is at a piece which is not its last must run
  abbrev pub Must : Bool → Stage → Type 0
  Must b o = (a k r : ℕ) → o ≡ active a k r → M.last k ≡ false → b ≡ true

  abbrev pub Good : ℕ → Stage → Type 0
  Good i never = Unit {0}
  Good i (ended a) = Unit {0}
  Good i (active a k r) = Steady i a k r

module _ (M : Model) (S : Sound M) where
  due_here : (j a k r : ℕ) → k ≡ j → due M j (active a k r) ≡ M.cost j - r
  unfolding due
  due_here j a k r h = rw (eq-eqb k j h)

  due_away : (j a k r : ℕ) → (k ≡ j → ⊥) → due M j (active a k r) ≡ 0
  unfolding due
  due_away j a k r h = rw (ne_eqb k j h)

  wait_before : (j a k r : ℕ) → k < j → wait M j (active a k r) ≡ M.off j - a
  unfolding wait
  wait_before j a k r h = rw (lt-ltb k j h)

  wait_after : (j a k r : ℕ) → j ≤ k → wait M j (active a k r) ≡ M.period (M.task j) - a + M.off j
  unfolding wait
  wait_after j a k r h = rw (le-ltb k j h)

  -- a job that runs at piece k takes a tick from what is due at k
  spend : (j a a' k r : ℕ) → r < M.cost k → due M j (active a' k (suc r)) + hit j true (active a k r) ≤ due M j (active a k r)
  unfolding hit at due
  spend j a a' k r h = go (ℕ_discrete k j)
    where
      go : Dec (k ≡ j) → due M j (active a' k (suc r)) + hit j true (active a k r) ≤ due M j (active a k r)
      go (yes q) = rw (eq-eqb k j q) (omega (arith, ap M.cost q))
      go (no q) = rw (ne_eqb k j q) (omega arith)

  wait_most : (j a k r : ℕ) → wait M j (active a k r) ≤ M.period (M.task j) - a + M.off j
  wait_most j a k r = go (dec_lt k j)
    where
      go : Dec (k < j) → wait M j (active a k r) ≤ M.period (M.task j) - a + M.off j
      go (yes l) = omega (arith, wait_before j a k r l)
      go (no l) = omega (arith, wait_after j a k r (omega arith))

  wait_older : (j i a k r r' : ℕ) → M.task j ≡ i → wait M j (active a k r) ≤ wait M j (active (older M i a) k r') + 1
  unfolding older
  wait_older j i a k r r' e = go (dec_lt k j)
    where
      go : Dec (k < j) → wait M j (active a k r) ≤ wait M j (active (older M i a) k r') + 1
      go (yes l) = omega (arith, wait_before j a k r l, wait_before j (older M i a) k r' l)
      go (no l) = omega (arith, ap M.period e, wait_after j a k r (omega arith), wait_after j (older M i a) k r' (omega arith))

  abbrev Moves : ℕ → Stage → Stage → ℕ → Type 0
  Moves j o o' x = Move (M.cost j) (M.period (M.task j)) (due M j o) (wait M j o) (due M j o') (wait M j o') x

  -- a job that goes on to the next piece
  next_move : (j a k r : ℕ) → j < M.pieces → Steady M (M.task j) a k r → suc r ≡ M.cost k → M.last k ≡ false → Moves j (active a k r) (active (older M (M.task j) a) (suc k) 0) (hit j true (active a k r))
  unfolding older
  next_move j a k r h g u z = go (stands (suc k) j)
    where
      a' : ℕ
      a' = older M (M.task j) a

      go : Stands (suc k) j → Moves j (active a k r) (active a' (suc k) 0) (hit j true (active a k r))
      go (before l) =
          passes (hit_one j true (active a k r))
          (omega (arith, spend j a a' k r g.part, due_away j a' (suc k) 0 (omega arith)))
          (omega (arith, wait_before j a k r (omega arith), wait_before j a' (suc k) 0 l))
      go (after l) =
          passes (hit_one j true (active a k r))
          (omega (arith, spend j a a' k r g.part, due_away j a' (suc k) 0 (omega arith)))
          (omega (arith, wait_after j a k r (omega arith), wait_after j a' (suc k) 0 (omega arith)))
      go (here q) =
          let n : M.off j ≡ M.off k + M.cost k = ap M.off (sym q) ∙ (S.next k g.known z).2 in
          let m : M.off j + M.cost j ≤ M.period (M.task j) = S.inside j h in
          comes (omega (arith, spend j a a' k r g.part, due_away j a k r (omega arith)))
          (due_here j a' (suc k) 0 q ∙ omega arith)
          (wait_after j a' (suc k) 0 (omega arith) ∙ omega (arith, g.exact z))
          (omega (arith, g.exact z, wait_before j a k r (omega arith)))

  run_move : (j : ℕ) → j < M.pieces → (b : Bool) (o : Stage) → Good M (M.task j) o → Moves j o (run M (M.task j) b o) (hit j b o)
  unfolding run older due wait hit at onward
  run_move j h false never g = passes (omega arith) (omega arith) (omega arith)
  run_move j h true never g = passes (omega arith) (omega arith) (omega arith)
  run_move j h false (ended a) g = passes (omega arith) (omega arith) (omega arith)
  run_move j h true (ended a) g = passes (omega arith) (omega arith) (omega arith)
  run_move j h false (active a k r) g = passes (omega arith) (omega arith) (wait_older j _ a k r r refl)
  run_move j h true (active a k r) g = go _ _ refl refl
    where
      a' : ℕ
      a' = older M (M.task j) a

      go : (c z : Bool) → ltb (suc r) (M.cost k) ≡ c → M.last k ≡ z → Moves j (active a k r) (onward M c z a' k (suc r)) (hit j true (active a k r))
      go true z t y = passes (hit_one j true (active a k r)) (spend j a a' k r g.part) (wait_older j _ a k r (suc r) refl)
      go false true t y = passes (hit_one j true (active a k r)) (omega (arith, spend j a a' k r g.part)) (omega (arith, wait_most j a k r))
      go false false t y = next_move j a k r h g (omega (arith, ltb-false (suc r) (M.cost k) t, g.part)) y

  -- ---- the laws of `can`, a piece of the plan being given
  module _ (j : ℕ) (h : j < M.pieces) where
    pos : 0 < M.period (M.task j)
    pos = omega (arith, S.inside j h, S.some j h)

    fits : M.cost j ≤ M.period (M.task j)
    fits = omega (arith, S.inside j h)

    pub can_tick : (b : Bool) (o : Stage) (l : ℕ) → Good M (M.task j) o → can M j (run M (M.task j) b o) l + hit j b o ≤ can M j o (suc l)
    unfolding can
    can_tick b o l g = move_tick _ _ pos fits _ _ _ _ _ l (run_move j h b o g)

    due_none : (o : Stage) → at j o ≡ false → due M j o ≡ 0
    unfolding due at
    due_none never e = refl
    due_none (ended a) e = refl
    due_none (active a k r) e = rw e

    pub can_quiet : (b : Bool) (o : Stage) (l : ℕ) → Good M (M.task j) o → at j o ≡ false → can M j (run M (M.task j) b o) l ≤ interference (M.cost j) (M.period (M.task j)) l
    unfolding can
    can_quiet b o l g e = move_quiet _ _ pos fits _ _ _ _ _ l (run_move j h b o g) (due_none o e)

    pub can_never : (l : ℕ) → can M j never l ≤ interference (M.cost j) (M.period (M.task j)) l
    unfolding can due wait
    can_never l = potential_quiet _ _ pos fits (M.off j) l

    pub can_finish : (o : Stage) (l : ℕ) → can M j (finish o) l ≤ can M j o l
    unfolding can finish due wait
    can_finish never l = le_refl _
    can_finish (ended a) l = le_refl _
    can_finish (active a k r) l = potential_less _ _ pos fits l (omega arith) (omega (arith, wait_most j a k r))

    wait_release : (o : Stage) → May M (M.task j) o → wait M j o ≤ M.off j
    unfolding wait
    wait_release never m = le_refl _
    wait_release (ended a) m = omega arith
    wait_release (active a k r) m = absurd m

    pub can_release : (o : Stage) (l : ℕ) → May M (M.task j) o → can M j (release M (M.task j)) l ≤ can M j o l
    unfolding can release
    can_release o l m = le_trans (go (stands k j)) (potential_less _ _ pos fits l (omega arith) (wait_release o m))
      where
        k : ℕ
        k = M.first (M.task j)

        go : Stands k j → potential (M.cost j) (M.period (M.task j)) (due M j (active 0 k 0)) (wait M j (active 0 k 0)) l ≤ potential (M.cost j) (M.period (M.task j)) 0 (M.off j) l
        go (before b) = potential_less _ _ pos fits l (omega (arith, due_away j 0 k 0 (omega arith))) (omega (arith, wait_before j 0 k 0 b))
        go (after b) = absurd (omega (arith, S.leads j h))
        go (here q) =
            let z : M.off j ≡ 0 = ap M.off (sym q) ∙ (S.begins (M.task j) (S.owned j h)).2 in
            let d : due M j (active 0 k 0) ≡ M.cost j = due_here j 0 k 0 q ∙ omega arith in
            let w : wait M j (active 0 k 0) ≡ M.period (M.task j) = wait_after j 0 k 0 (omega arith) ∙ omega arith in
            rw (d, w, z) (omega (arith, potential_fresh _ _ pos fits l, potential_none _ _ pos fits l))

  -- ---- the state of a job stays good
  pub good_finish : (i : ℕ) (o : Stage) → Good M i o → Good M i (finish o)
  unfolding finish
  good_finish i never g = tt
  good_finish i (ended a) g = tt
  good_finish i (active a k r) g = tt

  pub good_release : (i : ℕ) → i < M.tasks → Good M i (release M i)
  unfolding release
  good_release i h =
      let b : (M.first i < M.pieces) × (M.task (M.first i) ≡ i) × (M.off (M.first i) ≡ 0) = S.begins i h in
      record { known = b.0; own = b.1; part = S.some _ b.0; exact = λ z. omega arith }

  pub good_run : (i : ℕ) (b : Bool) (o : Stage) → Must M b o → Good M i o → Good M i (run M i b o)
  unfolding run older onward
  good_run i false never m g = tt
  good_run i true never m g = tt
  good_run i false (ended a) m g = tt
  good_run i true (ended a) m g = tt
  good_run i false (active a k r) m g =
      let n : M.off k + M.cost k ≤ M.period i = rw g.own at (S.inside k g.known) in
      record { known = g.known; own = g.own; part = g.part; exact = λ z. let f : ◌≡◌ {A = ℕ} 0 1 = cc (m a k r refl z) in omega arith }
  good_run i true (active a k r) m g = go _ _ refl refl
    where
      fit : M.off k + M.cost k ≤ M.period i
      fit = rw g.own at (S.inside k g.known)

      go : (c z : Bool) → ltb (suc r) (M.cost k) ≡ c → M.last k ≡ z → Good M i (onward M c z (older M i a) k (suc r))
      go true z t y = record { known = g.known; own = g.own; part = ltb-true _ _ t; exact = λ x. omega (arith, g.exact x, g.part, fit) }
      go false true t y = tt
      go false false t y =
          let n : (suc k < M.pieces) × (M.task (suc k) ≡ M.task k) × (M.off (suc k) ≡ M.off k + M.cost k) = S.next k g.known y in
          let e : suc r ≡ M.cost k = omega (arith, ltb-false (suc r) (M.cost k) t, g.part) in
          record { known = n.0; own = n.1 ∙ g.own; part = S.some _ n.0; exact = λ x. omega (arith, g.exact y, n.2, fit) }
