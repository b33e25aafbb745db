-- The margin of a piece.
use Rattle.std.specs.Prelude.{cond, ℕ, ◌-◌, leb, ℤ, pos, neg_ℤ}
use Rattle.plans.specs.declared.Margin.{Margin}
use Rattle.plans.specs.declared.Margin.TheVariants.{Left, Over}

-- margin is D minus bound
unfoldable pub margin : ℕ → ℕ → Margin
margin D b = cond (leb b D) (Left (D - b)) (Over (b - D))

-- the signed number that a margin is
abbrev pub signed : Margin → ℤ
signed (Left n) = pos n
signed (Over n) = neg_ℤ (pos n)
