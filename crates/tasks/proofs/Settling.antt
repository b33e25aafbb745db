-- A contract settles the result: two results that satisfy it for the same arguments, and the same lent bytes at exit, are equal.
use mathlib.Core.Path.{◌≡◌, sym, ◌∙◌}

-- of a contract P over arguments, result and what the arguments are at exit
abbrev pub Settles : {X R E : Type 0} → (X → R → E → Type 0) → Type 0
Settles {X = X} {R = R} {E = E} P = (x : X) (e : E) (r s : R) → P x r e → P x s e → r ≡ s

pub settled : {A : Type 0} {d r s : A} → r ≡ d → s ≡ d → r ≡ s
settled p q = p ∙ sym q

-- and it settles what is lent, read off the arguments at exit
abbrev pub Lends : {X R E A : Type 0} → (X → R → E → Type 0) → (E → A) → Type 0
Lends {X = X} {R = R} {E = E} P bytes = (x : X) (e f : E) (r s : R) → P x r e → P x s f → bytes e ≡ bytes f
