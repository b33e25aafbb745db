-- What `==` says of kinds.
use mathlib.Core.Path.{◌≡◌, refl}
use denote.Enum.Bare.{sameb}
use Rattle.plans.specs.Shape.{is_share}
use Rattle.plans.specs.contracts.Kind.{the_type}
use Rattle.plans.specs.declared.Kind.{Kind}
use Rattle.plans.specs.declared.Kind.TheVariants.{Whole, Share}

pub same_share : (k : Kind) → sameb the_type k Share ≡ is_share k
same_share Whole = refl
same_share Share = refl
