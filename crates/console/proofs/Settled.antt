-- The contract of `plan_in` settles its result.
use contract.Lifetimes.{Lfts}
use Rattle.tasks.proofs.Settling.{Settles, settled}
use Rattle.console.proofs.plan_in.Reads as plan-in

pub plan_in_settled : (κ : Lfts 1) → Settles (plan-in.Post κ)
plan_in_settled κ x e r s p q = settled p q
