-- The one exactly when the other.
use mathlib.Core.Logic.{◌⊎◌, inl, inr}

-- each follows from the other
pub record Exactly (A B : Type 0) : Type 0 where
  pub only : A → B
  pub when : B → A

-- one after the other
pub chain : {A B C : Type 0} → Exactly A B → Exactly B C → Exactly A C
chain p q = record { only = λ a. q.only (p.only a); when = λ c. p.when (q.when c) }

-- exactly when, beside another case
pub beside : {A B C : Type 0} → Exactly A B → Exactly (A ⊎ C) (B ⊎ C)
beside {A} {B} {C} p = record { only = only; when = when }
  where
    only : A ⊎ C → B ⊎ C
    only (inl a) = inl (p.only a)
    only (inr c) = inr c

    when : B ⊎ C → A ⊎ C
    when (inl b) = inl (p.when b)
    when (inr c) = inr c
