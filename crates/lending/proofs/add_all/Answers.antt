use mathlib.Core.Path.{◌≡◌, refl}
use Rattle.lending.proofs.Walk.{addings, summing}
use Rattle.lending.proofs.add.Symbol.{name as #lending·add}
use Rattle.lending.proofs.lent_piece.Symbol.{name as #lending·lent_piece}
use Rattle.lending.proofs.add_all.Code as code

-- the code is that of a loop over a lent list, of which `sums_meet` speaks
pub is_summing : code.function ≡ summing addings.type #lending·lent_piece #lending·add
is_summing = refl
