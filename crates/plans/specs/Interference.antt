-- Interference of a piece (e, p) in length L (document 004, equations 1 and 2).
use Rattle.std.specs.Prelude.{cond, ℕ, ◌+◌, ◌-◌, ◌*◌, ◌/◌, leb}

-- with F = floor(L / p): if L ≥ F·p + e it is (F+1)·e, otherwise L − F·(p − e).
-- A length is a natural number: a difference below 0 is 0, and the interference in 0 is 0.
unfoldable pub interference : (e p L : ℕ) → ℕ
interference e p L =
    let F : ℕ = L / p in
    cond (leb (F * p + e) L) ((F + 1) * e) (L - F * (p - e))

-- ceil(L / p)
unfoldable pub periods : (p L : ℕ) → ℕ
periods p L = (L + (p - 1)) / p
