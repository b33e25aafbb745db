-- Plans that agree up to their counts have one listing: what stands past a count is not read.
use mathlib.Core.Path.{◌≡◌, ap}
use Prim.Native.Nat.{min}
use native.Mathlib.Omega.{arith}
use Rattle.tasks.proofs.Below.{row_same}
use Rattle.tasks.specs.Tables.{SameTable}
use Rattle.plans.specs.Pieces.{piece_of, SamePlan}
use Rattle.plans.specs.declared.Plan.{Plan}
use Rattle.planner.proofs.SameTables.{planned_same}
use Rattle.std.specs.Prelude.{Result, Ok, Err}
use Rattle.tasks.specs.declared.Refusal.{Refusal}
use Rattle.tasks.specs.declared.Table.{Table}
use Rattle.texts.specs.Telling.{refusal_text}
use Rattle.planlines.specs.Listing.{piece_text, listing_text, planned_text, lister_text}

-- plans that are the same have the same listing
pub listing_same : (a b : Plan) → SamePlan a b → listing_text a ≡ listing_text b
unfolding listing_text
listing_same a b e = rw (row_same (min a.placed 128) (λ j. piece_text (piece_of a j)) (λ j. piece_text (piece_of b j)) (λ j l. ap piece_text (e.pieces j (omega arith))), e.cores, e.count, e.placed)

-- answers of which each accepts the same, or which refuse alike
abbrev pub Alike : {A : Type 0} → (A → A → Type 0) → Result A Refusal → Result A Refusal → Type 0
Alike Same (Ok a) (Ok b) = Same a b
Alike Same (Err x) (Err y) = x ≡ y
Alike Same (Ok a) (Err y) = ⊥
Alike Same (Err x) (Ok b) = ⊥

-- answers with plans that are the same have the same text
pub planned_text_same : (l m : Result Plan Refusal) → Alike SamePlan l m → planned_text l ≡ planned_text m
planned_text_same (Ok p) (Ok q) e = listing_same p q e
planned_text_same (Err x) (Err y) e = ap refusal_text e
planned_text_same (Ok p) (Err y) e = absurd e
planned_text_same (Err x) (Ok q) e = absurd e

-- answers with tables that are the same have the same text
pub lister_text_same : (r q : Result Table Refusal) → Alike SameTable r q → lister_text r ≡ lister_text q
unfolding lister_text
lister_text_same (Ok t) (Ok u) e = ap planned_text (planned_same t u e)
lister_text_same (Err x) (Err y) e = ap refusal_text e
lister_text_same (Ok t) (Err y) e = absurd e
lister_text_same (Err x) (Ok u) e = absurd e
