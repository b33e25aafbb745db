-- Places in a file, in bytes from its start.
use Rattle.std.specs.Prelude.{cond, ℕ, ◌+◌, ◌-◌, leb}
use Rattle.tasks.specs.declared.Place.{Place}

abbrev pub place_at : ℕ → Place
place_at n = record { 0 = n }

-- the place n bytes further on; places stop at the largest number that a machine word holds
unfoldable pub further : ℕ → ℕ → ℕ
further p n = cond (leb p (18446744073709551615 - n)) (p + n) 18446744073709551615
