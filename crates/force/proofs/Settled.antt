-- Each public contract settles its result: of the returned part the pointer and the bytes.
use contract.Lifetimes.{Lfts}
use denote.Ref.{Bor}
use mathlib.Core.List.{List}
use mathlib.Core.Path.{◌≡◌, sym, ◌∙◌}
use Prim.Native.Nat.{ℕ}
use Rattle.std.specs.Prelude.{Result, Ok, Err}
use Rattle.tasks.specs.declared.Refusal.{Refusal}
use Rattle.tasks.proofs.Settling.{Settles, settled}
use Rattle.force.specs.InForce.{IsPart, IsInForce}
use Rattle.force.specs.declared.InForce.{InForce}
use Rattle.force.specs.declared.InForce.TheVariants.{Own, Shipped}
use Rattle.force.proofs.which_in_force.Reads as which-in-force
use Rattle.force.proofs.cores_in_force.Reads as cores-in-force

pub which_in_force_settled : (κ : Lfts 1) → Settles (which-in-force.Post κ)
which_in_force_settled κ x e r s p q = settled p q

pub cores_in_force_settled : (κ : Lfts 1) → Settles (cores-in-force.Post κ)
cores_in_force_settled κ x e r s p q = settled p q

-- two parts that a contract allows are one
pub part_fixed : (r q s : Bor (List ℕ)) (a e : ℕ) → IsPart r s a e → IsPart q s a e → (r.ref_ptr.0 ≡ q.ref_ptr.0) × ((r.ref_ptr.1 ≡ q.ref_ptr.1) × (r.now ≡ q.now))
part_fixed r q s a e h k = (h.block ∙ sym k.block, (h.offset ∙ sym k.offset, h.bytes ∙ sym k.bytes))

pub table_in_force_settled : (i : Result InForce Refusal) (r q own shipped : Bor (List ℕ)) → IsInForce i r own shipped → IsInForce i q own shipped → (r.ref_ptr.0 ≡ q.ref_ptr.0) × ((r.ref_ptr.1 ≡ q.ref_ptr.1) × (r.now ≡ q.now))
table_in_force_settled (Ok Own) r q own shipped h k = part_fixed r q own _ _ h k
table_in_force_settled (Ok Shipped) r q own shipped h k = part_fixed r q shipped _ _ h k
table_in_force_settled (Err x) r q own shipped h k = part_fixed r q shipped _ _ h k
