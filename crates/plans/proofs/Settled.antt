-- Each public contract settles its result.
use Rattle.tasks.proofs.Settling.{Settles, settled}
use Rattle.plans.proofs.interferes.Reads as interferes
use Rattle.plans.proofs.outranks.Reads as outranks
use Rattle.plans.proofs.margin_of.Reads as margin-of
use Rattle.plans.proofs.check_plan.Reads as check-plan

pub interferes_settled : Settles (interferes.Post tt)
interferes_settled x e r s p q = settled p q

pub outranks_settled : Settles (outranks.Post tt)
outranks_settled x e r s p q = settled p q

pub margin_of_settled : Settles (margin-of.Post tt)
margin_of_settled x e r s p q = settled p q

pub check_plan_settled : Settles (check-plan.Post tt)
check_plan_settled x e r s p q = settled p q
