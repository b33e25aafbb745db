-- Each public contract settles its result.
use Rattle.tasks.proofs.Settling.{Settles, settled}
use Rattle.bounds.proofs.earlier.Reads as earlier
use Rattle.bounds.proofs.pressure.Reads as pressure
use mathlib.Core.List.{List}
use mathlib.Core.Path.{◌≡◌, ap, ◌∙◌}
use Prim.Native.Nat.{ℕ}
use lib.ListN.{length}
use Rattle.tasks.specs.declared.Task.{Task}
use Rattle.plans.specs.Pieces.{task_of, piece_of}
use Rattle.plans.specs.declared.Piece.{Piece}
use Rattle.bounds.specs.Bound as bounds
use Rattle.bounds.specs.Leaves.{listed}
use Rattle.bounds.specs.declared.Bounded.{Bounded}
use Rattle.bounds.proofs.bound_of.Reads as bound_of
use Rattle.bounds.proofs.ask_bound.Reads as ask-bound

pub earlier_settled : Settles (earlier.Post tt)
earlier_settled x e r s p q = settled p q

pub pressure_settled : Settles (pressure.Post tt)
pressure_settled x e r s p q = settled p q

pub load_settled : (ts : List Task) (ys : List Piece) (b : Piece) (l r s : ℕ) → r ≡ bounds.load (task_of (listed ts ys)) (piece_of (listed ts ys)) (length ys) b l → s ≡ bounds.load (task_of (listed ts ys)) (piece_of (listed ts ys)) (length ys) b l → r ≡ s
load_settled ts ys b l r s = settled

pub bound_of_settled : Settles (bound_of.Post tt)
bound_of_settled x e r s p q = same r s (settled p.0 q.0) (settled p.1 q.1)
  where
    same : (a b : Bounded) → a.deadline ≡ b.deadline → a.bound ≡ b.bound → a ≡ b
    same a b d l = ap (λ (n : ℕ). record { deadline = n; bound = a.bound }) d ∙ ap (λ (n : ℕ). record { deadline = b.deadline; bound = n }) l

pub ask_bound_settled : Settles (ask-bound.Post tt)
ask_bound_settled x e r s p q = settled p q
