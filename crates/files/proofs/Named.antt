-- What fields name, when one field stands before them.
use mathlib.Core.Path.{◌≡◌, refl}
use mathlib.Core.Bool.{Bool, true, false, ◌&&◌, cond}
use mathlib.Core.List.{List, [], ◌∷◌}
use Prim.Native.Nat.{ℕ, ◌+◌, ◌≤◌, ◌<◌}
use native.Mathlib.Omega.{arith}
use lib.Dec.{leb, ltb, eqb}
use lib.ListN.{length, get_or}
use borrow.Author.Tests.{eq-eqb, ne_eqb, leb-true, le-leb, lt-leb}
use Rattle.files.specs.Grammar.{tag_of, task_of_field, piece_of_field, tasks_in, pieces_in, kinds_fit, tasks_end}

module _ (f : List ℕ) (fs : List (List ℕ)) where
  -- a field with tag 2 names a task
  pub tasks_more : tag_of f ≡ 2 → tasks_in (f ∷ fs) ≡ task_of_field f ∷ tasks_in fs
  unfolding tasks_in
  tasks_more t = rw (eq-eqb (tag_of f) 2 t)

  -- any other names none
  pub tasks_other : (tag_of f ≡ 2 → ⊥) → tasks_in (f ∷ fs) ≡ tasks_in fs
  unfolding tasks_in
  tasks_other t = rw (ne_eqb (tag_of f) 2 t)

  -- a field with tag 3 names a piece
  pub pieces_more : tag_of f ≡ 3 → pieces_in (f ∷ fs) ≡ piece_of_field f ∷ pieces_in fs
  unfolding pieces_in
  pieces_more t = rw (eq-eqb (tag_of f) 3 t)

  -- any other names none
  pub pieces_other : (tag_of f ≡ 3 → ⊥) → pieces_in (f ∷ fs) ≡ pieces_in fs
  unfolding pieces_in
  pieces_other t = rw (ne_eqb (tag_of f) 3 t)

  -- a piece's kind is looked at
  pub kinds_more : tag_of f ≡ 3 → kinds_fit (f ∷ fs) ≡ ltb (get_or f 5 0) 2 && kinds_fit fs
  unfolding kinds_fit
  kinds_more t = rw (eq-eqb (tag_of f) 3 t)

  -- no other field has a kind
  pub kinds_other : (tag_of f ≡ 3 → ⊥) → kinds_fit (f ∷ fs) ≡ kinds_fit fs
  unfolding kinds_fit
  kinds_other t = rw (ne_eqb (tag_of f) 3 t)

-- the end of the tasks, as it is known at k with e: a piece before k has fixed it
abbrev pub end_from : ℕ → ℕ → List (List ℕ) → ℕ
end_from k e fs = cond (leb k e) (tasks_end k fs) e

-- the core count, m being known at k: only the first field names another
abbrev pub cores_from : Bool → ℕ → List (List ℕ) → ℕ
cores_from false m fs = m
cores_from true m [] = m
cores_from true m (f ∷ fs) = cond (eqb (tag_of f) 1) (get_or f 3 0) m

-- a field without tag 1 names no core count
pub cores_other : (b : Bool) (m : ℕ) (f : List ℕ) (fs : List (List ℕ)) → (tag_of f ≡ 1 → ⊥) → cores_from b m (f ∷ fs) ≡ m
cores_other true m f fs t = rw (ne_eqb (tag_of f) 1 t)
cores_other false m f fs t = refl

-- where no field is left the tasks end where it is known
pub end_none : (k e : ℕ) → e ≤ k → end_from k e [] ≡ e
unfolding tasks_end
end_none k e h = go _ refl
  where
    go : (b : Bool) → leb k e ≡ b → cond b k e ≡ e
    go true q = omega (arith, leb-true k e q)
    go false q = refl

-- behind a piece the end of the tasks is fixed
pub end_piece : (k e k' : ℕ) (f : List ℕ) (fs : List (List ℕ)) → e ≤ k → k < k' → tag_of f ≡ 3 → end_from k e (f ∷ fs) ≡ end_from k' e fs
unfolding tasks_end
end_piece k e k' f fs h l t = rw (eq-eqb (tag_of f) 3 t, lt-leb k' e (omega arith)) (go _ refl)
  where
    go : (b : Bool) → leb k e ≡ b → cond b k e ≡ e
    go true q = omega (arith, leb-true k e q)
    go false q = refl

-- behind any other field it is still to come
pub end_other : (k e : ℕ) (f : List ℕ) (fs : List (List ℕ)) → k ≤ e → (tag_of f ≡ 3 → ⊥) → end_from k e (f ∷ fs) ≡ end_from (k + length f) (k + length f) fs
unfolding tasks_end
end_other k e f fs h t = rw (ne_eqb (tag_of f) 3 t, le-leb k e h, le-leb (k + length f) (k + length f) (omega arith))
