-- What matters of the fields before a field, said of these fields: whether there are any, whether one is a piece, how many are tasks, and that all are good.
use mathlib.Core.Path.{◌≡◌, refl, sym, ap, ◌∙◌}
use mathlib.Core.Bool.{Bool, true, false, not, ◌||◌}
use mathlib.Core.List.{List, [], ◌∷◌, ◌++◌}
use Prim.Native.Nat.{ℕ, ◌+◌}
use native.Mathlib.Decide.{ℕ_discrete}
use native.Mathlib.Omega.{arith}
use lib.ListN.{length}
use borrow.Author.Tests.{eq-eqb, ne_eqb}
use Rattle.tasks.proofs.Bools.{or_false, right_one}
use Rattle.tasks.specs.Answers.{Accepted}
use Rattle.files.specs.Grammar.{Before, tag_of, start, behind, fault, judged, tasks_in, pieces_in}
use Rattle.files.specs.Rules.{behind_all}
use Rattle.files.proofs.Exactly.{Exactly}
use Rattle.files.proofs.Named.{tasks_more, tasks_other, pieces_more, pieces_other}
use Rattle.files.proofs.FirstBad.{judged_good, first_good}

-- is a list empty?
abbrev is_empty : {A : Type 0} → List A → Bool
is_empty [] = true
is_empty (x ∷ xs) = false

-- behind a field something always came before
once_behind : (es : List (List ℕ)) (b : Before) → b.none ≡ false → (behind_all b es).none ≡ false
unfolding behind_all
once_behind [] b h = h
once_behind (e ∷ es) b h = once_behind es (behind b e) refl

-- nothing came before exactly the first field
pub none_is : (es : List (List ℕ)) → (behind_all start es).none ≡ is_empty es
unfolding behind_all
none_is [] = refl
none_is (e ∷ es) = once_behind es (behind start e) refl

-- each task is counted once
tasks_from : (es : List (List ℕ)) (b : Before) → (behind_all b es).tasks ≡ b.tasks + length (tasks_in es)
unfolding behind_all tasks_in
tasks_from [] b = omega arith
tasks_from (e ∷ es) b = tasks_from es (behind b e) ∙ go (ℕ_discrete (tag_of e) 2)
  where
    go : Dec (tag_of e ≡ 2) → (behind b e).tasks + length (tasks_in es) ≡ b.tasks + length (tasks_in (e ∷ es))
    go (yes t) = rw (tasks_more e es t, eq-eqb (tag_of e) 2 t) (omega arith)
    go (no t) = rw (tasks_other e es t, ne_eqb (tag_of e) 2 t)

-- as many tasks have come as the fields before name
pub tasks_are : (es : List (List ℕ)) → (behind_all start es).tasks ≡ length (tasks_in es)
tasks_are es = tasks_from es start ∙ omega arith

-- a piece that came is not forgotten
piece_from : (es : List (List ℕ)) (b : Before) → (behind_all b es).piece ≡ b.piece || not (is_empty (pieces_in es))
unfolding behind_all pieces_in
piece_from [] b = sym (or_false b.piece)
piece_from (e ∷ es) b = piece_from es (behind b e) ∙ go (ℕ_discrete (tag_of e) 3)
  where
    go : Dec (tag_of e ≡ 3) → (behind b e).piece || not (is_empty (pieces_in es)) ≡ b.piece || not (is_empty (pieces_in (e ∷ es)))
    go (yes t) = rw (pieces_more e es t, eq-eqb (tag_of e) 3 t, right_one b.piece {b = true} refl)
    go (no t) = rw (pieces_other e es t, ne_eqb (tag_of e) 3 t, or_false b.piece)

-- a piece has come if the fields before name one
pub piece_is : (es : List (List ℕ)) → (behind_all start es).piece ≡ not (is_empty (pieces_in es))
piece_is es = piece_from es start

-- of accepted fields each is good behind those before it
each_good : (o : Bool) (ds : List (List ℕ)) (f : List ℕ) (cs : List (List ℕ)) (b : Before) (j : ℕ) → judged o b j (ds ++ (f ∷ cs)) ≡ Accepted → fault o (behind_all b ds) f ≡ 0
unfolding behind_all
each_good o [] f cs b j h = first_good o f cs b j h
each_good o (a ∷ ds) f cs b j h = each_good o ds f cs (behind b a) (j + length a) (sym (judged_good o b j a (ds ++ (f ∷ cs)) (first_good o a (ds ++ (f ∷ cs)) b j h)) ∙ h)

-- fields that are each good are accepted
good_each : (o : Bool) (es : List (List ℕ)) (b : Before) (j : ℕ) → ((ds : List (List ℕ)) (f : List ℕ) (cs : List (List ℕ)) → es ≡ ds ++ (f ∷ cs) → fault o (behind_all b ds) f ≡ 0) → judged o b j es ≡ Accepted
unfolding judged behind_all
good_each o [] b j h = refl
good_each o (e ∷ es) b j h = judged_good o b j e es (h [] e es refl) ∙ good_each o es (behind b e) (j + length e) (λ ds f cs q. h (e ∷ ds) f cs (ap (λ (l : List (List ℕ)). e ∷ l) q))

-- fields are accepted exactly when each, behind those before it, is good
pub accepted_each : (o : Bool) (es : List (List ℕ)) → Exactly (judged o start 0 es ≡ Accepted) ((ds : List (List ℕ)) (f : List ℕ) (cs : List (List ℕ)) → es ≡ ds ++ (f ∷ cs) → fault o (behind_all start ds) f ≡ 0)
accepted_each o es = record { only = λ h ds f cs q. each_good o ds f cs start 0 (ap (judged o start 0) (sym q) ∙ h); when = good_each o es start 0 }
