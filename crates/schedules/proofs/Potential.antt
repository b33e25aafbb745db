-- How much a piece can still run: `due` ticks of the job that is at it, and after `wait` ticks what new jobs bring.
use mathlib.Core.Path.{◌≡◌, ap, ◌∙◌}
use Prim.Native.Nat.{ℕ, suc, ◌+◌, ◌-◌, ◌≤◌, ◌<◌, min}
use native.Mathlib.Decide.{dec_le}
use native.Mathlib.Nat.{sub-zero}
use native.Mathlib.Omega.{arith}
use Rattle.plans.proofs.Interference.{monotone, no_length, short_length, one_period}
use Rattle.plans.specs.Interference.{interference}

unfoldable pub potential : ℕ → ℕ → ℕ → ℕ → ℕ → ℕ
potential e p due wait l = min due l + interference e p (l - wait)

module _ (e p : ℕ) (pos : 0 < p) (fits : e ≤ p) where
  -- a tick in which the piece runs r ticks, r being 0 or 1
  pub potential_tick : (due due' wait wait' r l : ℕ) → r ≤ 1 → due' + r ≤ due → wait ≤ wait' + 1 → potential e p due' wait' l + r ≤ potential e p due wait (suc l)
  unfolding potential
  potential_tick due due' wait wait' r l h d w =
      let m : interference e p (l - wait') ≤ interference e p (suc l - wait) = monotone e p pos fits (omega arith) in
      omega arith

  -- a change between ticks: less due, and a longer wait
  pub potential_less : {due due' wait wait' : ℕ} (l : ℕ) → due' ≤ due → wait ≤ wait' → potential e p due' wait' l ≤ potential e p due wait l
  unfolding potential
  potential_less {due} {due'} {wait} {wait'} l d w =
      let m : interference e p (l - wait') ≤ interference e p (l - wait) = monotone e p pos fits (omega arith) in
      omega arith

  -- a piece that no job is at
  pub potential_quiet : (wait l : ℕ) → potential e p 0 wait l ≤ interference e p l
  unfolding potential
  potential_quiet wait l = omega (arith, monotone e p pos fits {l = l - wait} {l' = l} (omega arith))

  pub potential_none : (l : ℕ) → potential e p 0 0 l ≡ interference e p l
  unfolding potential
  potential_none l = ap (λ (y : ℕ). min 0 l + interference e p y) (sub-zero l) ∙ omega arith

  -- a piece that a job has just come to
  pub potential_fresh : (l : ℕ) → potential e p e p l ≡ interference e p l
  unfolding potential
  potential_fresh l = go (dec_le l p)
    where
      go : Dec (l ≤ p) → min e l + interference e p (l - p) ≡ interference e p l
      go (yes h) =
          let m : interference e p (l - p) ≡ interference e p 0 = ap (interference e p) (omega arith) in
          omega (arith, short_length e p pos fits l h, no_length e p pos fits)
      go (no h) =
          let m : interference e p (l - p + p) ≡ interference e p l = ap (interference e p) (omega arith) in
          omega (arith, one_period e p pos fits (l - p))

-- The two ways that a tick, in which the piece runs x ticks, can change what is due and the wait: time passes, or a job comes to the piece.
pub data Move (e p due wait due' wait' x : ℕ) : Type 0 where
  passes : x ≤ 1 → due' + x ≤ due → wait ≤ wait' + 1 → Move e p due wait due' wait' x
  comes : x ≡ 0 → due' ≡ e → wait' ≡ p → wait ≤ 1 → Move e p due wait due' wait' x

pub move_tick : (e p : ℕ) → 0 < p → e ≤ p → (due wait due' wait' x l : ℕ) → Move e p due wait due' wait' x → potential e p due' wait' l + x ≤ potential e p due wait (suc l)
move_tick e p pos fits due wait due' wait' x l (passes h d w) = potential_tick e p pos fits due due' wait wait' x l h d w
move_tick e p pos fits due wait due' wait' x l (comes h d w k) = rw (h, d, w) (omega (arith, potential_fresh e p pos fits l, potential_tick e p pos fits due 0 wait 0 0 l (omega arith) (omega arith) k, potential_none e p pos fits l))

-- after a tick before which no job was at the piece
pub move_quiet : (e p : ℕ) → 0 < p → e ≤ p → (due wait due' wait' x l : ℕ) → Move e p due wait due' wait' x → due ≡ 0 → potential e p due' wait' l ≤ interference e p l
move_quiet e p pos fits due wait due' wait' x l (passes h d w) n =
    let m : due' ≡ 0 = omega arith in
    rw m (potential_quiet e p pos fits wait' l)
move_quiet e p pos fits due wait due' wait' x l (comes h d w k) n = rw (d, w) (omega (arith, potential_fresh e p pos fits l))
