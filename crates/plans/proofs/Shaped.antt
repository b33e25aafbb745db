-- Laws of the plan shape: which piece may follow which, which is its task's last, and what a run of pieces in order says.
use mathlib.Core.Path.{◌≡◌, refl, sym, ap, ◌∙◌}
use mathlib.Core.Logic.{◌⊎◌, inl, inr}
use mathlib.Core.Bool.{Bool, true, false, not, ◌&&◌, ◌||◌, cond}
use Prim.Native.Nat.{ℕ, zero, suc, ◌+◌, ◌-◌, ◌≤◌, ◌<◌}
use native.Mathlib.Decide.{ℕ_discrete}
use native.Mathlib.Nat.{le_refl}
use native.Mathlib.Numerals.{add-one}
use native.Mathlib.Omega.{arith}
use lib.Dec.{leb, ltb, eqb}
use borrow.Author.Tests.{eq-eqb, ne_eqb, eqb-true, lt-ltb, le-ltb, ltb-true, le-leb, leb-true}
use Rattle.tasks.proofs.Bools.{clash, both, not_first, not_second, one_of, or_false, not_twice}
use Rattle.tasks.specs.Tables.{checked_tasks}
use Rattle.tasks.specs.Answers.{Accepted, Refused}
use Rattle.tasks.specs.declared.Refusal.{Refusal}
use Rattle.tasks.specs.declared.Refusal.TheVariants.{NoPlanShape}
use Rattle.tasks.specs.declared.Task.{Task}
use Rattle.plans.proofs.Costs.{costs_none, costs_own, costs_away}
use Rattle.plans.specs.Pieces.{task_of, piece_of, costs}
use Rattle.plans.specs.Shape.{is_share, same_task, follows, in_order, is_last, piece_fits, shape, checked_plan}
use Rattle.plans.specs.declared.Kind.{Kind}
use Rattle.plans.specs.declared.Kind.TheVariants.{Whole, Share}
use Rattle.plans.specs.declared.Piece.{Piece}
use Rattle.plans.specs.declared.Plan.{Plan}

-- a second test matters only where the first passes
pub where_so : (a : Bool) {b c : Bool} → (a ≡ true → b ≡ c) → a && b ≡ a && c
where_so true h = h refl
where_so false h = refl

-- what passes as a share is one
pub share_is : (k : Kind) → is_share k ≡ true → k ≡ Share
share_is Whole h = clash h refl
share_is Share h = refl

-- what does not is whole
pub whole_is : (k : Kind) → is_share k ≡ false → k ≡ Whole
whole_is Whole h = refl
whole_is Share h = clash refl h

module _ (a b : Piece) where
  pub next_follows : b.task.0 ≡ a.task.0 + 1 → follows a b ≡ true
  unfolding follows
  next_follows h = rw (eq-eqb b.task.0 (a.task.0 + 1) h)

  pub same_follows : a.task.0 ≡ b.task.0 → follows a b ≡ is_share a.kind && is_share b.kind && ltb a.core.0 b.core.0
  unfolding follows
  same_follows h = rw (ne_eqb b.task.0 (a.task.0 + 1) (λ e. omega arith), eq-eqb a.task.0 b.task.0 h)

-- what stands right after a piece
pub follows_says : (a b : Piece) → follows a b ≡ true → (b.task.0 ≡ a.task.0 + 1) ⊎ ((b.task.0 ≡ a.task.0) × (a.core.0 < b.core.0))
unfolding follows
follows_says a b h = go (one_of {a = eqb b.task.0 (a.task.0 + 1)} h)
  where
    go : (eqb b.task.0 (a.task.0 + 1) ≡ true) ⊎ (same_task a b && is_share a.kind && is_share b.kind && ltb a.core.0 b.core.0 ≡ true) → (b.task.0 ≡ a.task.0 + 1) ⊎ ((b.task.0 ≡ a.task.0) × (a.core.0 < b.core.0))
    go (inl q) = inl (eqb-true _ _ q)
    go (inr q) =
        let u : (same_task a b && is_share a.kind && is_share b.kind ≡ true) × (ltb a.core.0 b.core.0 ≡ true) = both {a = same_task a b && is_share a.kind && is_share b.kind} q in
        let v : (same_task a b && is_share a.kind ≡ true) × (is_share b.kind ≡ true) = both {a = same_task a b && is_share a.kind} u.0 in
        inr (sym (eqb-true _ _ (both {a = same_task a b} v.0).0), ltb-true _ _ u.1)

-- whether piece j is in order, by whether it is the first
pub order_read : (pc : ℕ → Piece) (j : ℕ) → in_order pc j ≡ (eqb j 0 && eqb (pc j).task.0 0) || (ltb 0 j && follows (pc (j - 1)) (pc j))
unfolding in_order
order_read pc zero = sym (or_false _)
order_read pc (suc j) =
    let e : suc j - 1 ≡ j = omega arith in
    rw (ne_eqb (suc j) 0 (λ z. omega arith), lt-ltb 0 (suc j) (omega arith), e)

pub last_end : (pc : ℕ → Piece) (n j : ℕ) → n ≤ suc j → is_last pc n j ≡ true
unfolding is_last
last_end pc n j h = rw (le-ltb (suc j) n h)

-- the first k pieces are in order
module _ (pc : ℕ → Piece) (k : ℕ) (ordered : (j : ℕ) → j < k → in_order pc j ≡ true) where
  step_up : (j : ℕ) → suc j < k → ((pc (suc j)).task.0 ≡ (pc j).task.0 + 1) ⊎ (((pc (suc j)).task.0 ≡ (pc j).task.0) × ((pc j).core.0 < (pc (suc j)).core.0))
  unfolding in_order
  step_up j h = follows_says (pc j) (pc (suc j)) (ordered (suc j) h)

  -- task numbers rise
  pub tasks_rise : (i j : ℕ) → i ≤ j → j < k → (pc i).task.0 ≤ (pc j).task.0
  tasks_rise i zero h l = let e : i ≡ 0 = omega arith in rw e (le_refl _)
  tasks_rise i (suc j) h l = go (ℕ_discrete i (suc j)) (step_up j l) (tasks_rise i j)
    where
      go : Dec (i ≡ suc j) → ((pc (suc j)).task.0 ≡ (pc j).task.0 + 1) ⊎ (((pc (suc j)).task.0 ≡ (pc j).task.0) × ((pc j).core.0 < (pc (suc j)).core.0)) → (i ≤ j → j < k → (pc i).task.0 ≤ (pc j).task.0) → (pc i).task.0 ≤ (pc (suc j)).task.0
      go (yes e) s ih = rw e (le_refl _)
      go (no e) (inl s) ih = omega (arith, ih (omega arith) (omega arith))
      go (no e) (inr s) ih = omega (arith, ih (omega arith) (omega arith))

  -- a task that none of them reaches has no cost among them
  pub costs_later : (i j : ℕ) → j < k → (pc j).task.0 < i → costs pc i (suc j) ≡ 0
  costs_later i j h l = costs_away pc i (suc j) (λ x b. ne_eqb (pc x).task.0 i (λ e. omega (arith, tasks_rise x j (omega arith) h)))

  -- a whole piece has no piece of its task before it
  pub whole_first : (q : ℕ) → q < k → is_share (pc q).kind ≡ false → costs pc (pc q).task.0 q ≡ 0
  unfolding in_order
  whole_first zero h w = costs_none pc _
  whole_first (suc j) h w = go (step_up j h)
    where
      go : ((pc (suc j)).task.0 ≡ (pc j).task.0 + 1) ⊎ (((pc (suc j)).task.0 ≡ (pc j).task.0) × ((pc j).core.0 < (pc (suc j)).core.0)) → costs pc (pc (suc j)).task.0 (suc j) ≡ 0
      go (inl s) = costs_later (pc (suc j)).task.0 j (omega arith) (omega arith)
      go (inr s) = clash (ordered (suc j) h) (same_follows (pc j) (pc (suc j)) (sym s.0) ∙ not_first _ (not_second (is_share (pc j).kind) w))

-- the tests of one piece
module _ (m count : ℕ) (ts : ℕ → Task) (pc : ℕ → Piece) (n j : ℕ) where
  -- a piece fits where it is in place, and its task goes on after it or has spent its cost
  pub fits_read : (more full : Bool) → more ≡ ltb (j + 1) n && same_task (pc j) (pc (j + 1))
      → ((pc j).task.0 < count → in_order pc j ≡ true → full ≡ eqb (costs pc (pc j).task.0 (suc j)) (ts (pc j).task.0).cost)
      → ltb (pc j).task.0 count && ltb (pc j).core.0 m && leb 1 (pc j).cost && in_order pc j && (more || full) ≡ piece_fits m count ts pc n j
  unfolding piece_fits is_last
  fits_read more full e h = where_so _ (λ a.
      let u : (ltb (pc j).task.0 count && ltb (pc j).core.0 m && leb 1 (pc j).cost ≡ true) × (in_order pc j ≡ true) = both a in
      let v : (ltb (pc j).task.0 count && ltb (pc j).core.0 m ≡ true) × (leb 1 (pc j).cost ≡ true) = both u.0 in
      rw (h (ltb-true _ _ (both {a = ltb (pc j).task.0 count} v.0).0) u.1, e, add-one, not_twice))

  -- a piece in place that is not its task's last fits, and its task's last fits by what the task has spent
  module _ (task : (pc j).task.0 < count) (core : (pc j).core.0 < m) (cost : 1 ≤ (pc j).cost) (order : in_order pc j ≡ true) where
    pub more_fits : is_last pc n j ≡ false → piece_fits m count ts pc n j ≡ true
    unfolding piece_fits
    more_fits l = rw (lt-ltb (pc j).task.0 count task, lt-ltb (pc j).core.0 m core, le-leb 1 (pc j).cost cost, order, l)

    pub last_fits : is_last pc n j ≡ true → piece_fits m count ts pc n j ≡ eqb (costs pc (pc j).task.0 (suc j)) (ts (pc j).task.0).cost
    unfolding piece_fits
    last_fits l = rw (lt-ltb (pc j).task.0 count task, lt-ltb (pc j).core.0 m core, le-leb 1 (pc j).cost cost, order, l)

  -- what a piece that fits is
  pub record Fits : Type 0 where
    pub task : (pc j).task.0 < count
    pub core : (pc j).core.0 < m
    pub cost : 1 ≤ (pc j).cost
    pub order : in_order pc j ≡ true
    pub full : is_last pc n j ≡ true → costs pc (pc j).task.0 (suc j) ≡ (ts (pc j).task.0).cost

  pub fits_say : piece_fits m count ts pc n j ≡ true → Fits
  unfolding piece_fits
  fits_say h =
      let t : Bool = ltb (pc j).task.0 count in
      let u : Bool = ltb (pc j).core.0 m in
      let v : Bool = leb 1 (pc j).cost in
      let a : (t && u && v && in_order pc j ≡ true) × (not (is_last pc n j) || eqb (costs pc (pc j).task.0 (suc j)) (ts (pc j).task.0).cost ≡ true) = both h in
      let b : (t && u && v ≡ true) × (in_order pc j ≡ true) = both a.0 in
      let d : (t && u ≡ true) × (v ≡ true) = both b.0 in
      let e : (t ≡ true) × (u ≡ true) = both d.0 in
      record {
        task = ltb-true _ _ e.0;
        core = ltb-true _ _ e.1;
        cost = leb-true _ _ d.1;
        order = b.1;
        full = λ l. eqb-true _ _ (rw l at a.1);
      }

-- what the piece before has used of its task's cost
unfoldable pub so_far : (ℕ → Piece) → ℕ → ℕ
so_far pc zero = 0
so_far pc (suc k) = costs pc (pc k).task.0 (suc k)

-- does piece j go on with the task of the piece before it?
abbrev pub goes_on : (ℕ → Piece) → ℕ → Bool
goes_on pc j = ltb 0 j && same_task (pc (j - 1)) (pc j)

-- a piece in order after pieces in order: what its task has used with it
pub carried : (pc : ℕ → Piece) (j : ℕ) → ((k : ℕ) → k < j → in_order pc k ≡ true) → in_order pc j ≡ true → cond (goes_on pc j) (so_far pc j) 0 + (pc j).cost ≡ costs pc (pc j).task.0 (suc j)
unfolding so_far in_order
carried pc j ordered here = ap (λ (x : ℕ). x + (pc j).cost) (go j ordered here) ∙ sym (costs_own pc j)
  where
    go : (j : ℕ) → ((k : ℕ) → k < j → in_order pc k ≡ true) → in_order pc j ≡ true → cond (goes_on pc j) (so_far pc j) 0 ≡ costs pc (pc j).task.0 j
    go zero o h = sym (costs_none pc _)
    go (suc k) o h = by (follows_says (pc k) (pc (suc k)) h)
      where
        e : suc k - 1 ≡ k
        e = omega arith

        by : ((pc (suc k)).task.0 ≡ (pc k).task.0 + 1) ⊎ (((pc (suc k)).task.0 ≡ (pc k).task.0) × ((pc k).core.0 < (pc (suc k)).core.0)) → cond (goes_on pc (suc k)) (so_far pc (suc k)) 0 ≡ costs pc (pc (suc k)).task.0 (suc k)
        by (inl n) = rw (lt-ltb 0 (suc k) (omega arith), e, ne_eqb (pc k).task.0 (pc (suc k)).task.0 (λ q. omega arith)) (sym (costs_later pc (suc k) o (pc (suc k)).task.0 k (omega arith) (omega arith)))
        by (inr s) = rw (lt-ltb 0 (suc k) (omega arith), e, eq-eqb (pc k).task.0 (pc (suc k)).task.0 (sym s.0)) (ap (λ (i : ℕ). costs pc i (suc k)) (sym s.0))

-- the answers of a plan's check, by what its tasks and its shape get
module _ (p : Plan) where
  pub tasks_refused : (r : Refusal) → checked_tasks p.cores p.count (task_of p) ≡ Refused r → checked_plan p ≡ Refused r
  unfolding checked_plan
  tasks_refused r h = rw h

  module _ (good : checked_tasks p.cores p.count (task_of p) ≡ Accepted) where
    pub shape_refused : shape p.cores p.count (task_of p) (piece_of p) p.placed ≡ false → checked_plan p ≡ Refused NoPlanShape
    unfolding checked_plan
    shape_refused h = rw (good, h)

    pub shape_accepted : shape p.cores p.count (task_of p) (piece_of p) p.placed ≡ true → checked_plan p ≡ Accepted
    unfolding checked_plan
    shape_accepted h = rw (good, h)
