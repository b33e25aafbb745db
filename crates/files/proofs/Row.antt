-- A file is its fields in a row, and the field at a place is what stands there.
use mathlib.Core.Path.{◌≡◌, refl, sym, ap, ◌∙◌}
use mathlib.Core.Bool.{Bool}
use mathlib.Core.List.{List, [], ◌∷◌, ◌++◌, append_assoc}
use Prim.Native.Nat.{ℕ, zero, suc, ◌≤◌}
use native.Mathlib.Omega.{arith}
use lib.ListN.{length, take, drop, length-drop, take-append-drop}
use lib.Seq.{take_at, drop_at}
use Rattle.files.specs.Grammar.{field_length, Before, cut, fields_of}
use Rattle.files.specs.Rules.{joined, FirstBad}

-- the fields that are cut from a list are the list
cut_joined : (n : ℕ) (s : List ℕ) → length s ≤ n → joined (cut n s) ≡ s
unfolding cut joined
cut_joined zero [] h = refl
cut_joined zero (x ∷ s) h = absurd (omega arith)
cut_joined (suc n) [] h = refl
cut_joined (suc n) (x ∷ s) h =
    ap (λ (l : List ℕ). take (field_length (x ∷ s)) (x ∷ s) ++ l) (cut_joined n (drop (field_length (x ∷ s)) (x ∷ s)) (omega (arith, length-drop (field_length (x ∷ s)) (x ∷ s))))
    ∙ take-append-drop (field_length (x ∷ s)) (x ∷ s)

-- a file is its fields in a row
pub file_joined : (s : List ℕ) → joined (fields_of s) ≡ s
file_joined s = cut_joined (length s) s (omega arith)

-- rows behind one another are one row
joined_append : (es fs : List (List ℕ)) → joined (es ++ fs) ≡ joined es ++ joined fs
unfolding joined
joined_append [] fs = refl
joined_append (e ∷ es) fs = ap (λ (l : List ℕ). e ++ l) (joined_append es fs) ∙ sym (append_assoc e (joined es) (joined fs))

-- the first bad field is what the file has at its place
pub field_there : (o : Bool) (s : List ℕ) (Rule : Bool → Before → List ℕ → Type 0) (k : ℕ) (t : FirstBad o (fields_of s) Rule k) → take (length t.field) (drop k s) ≡ t.field
unfolding joined
field_there o s Rule k t =
    let whole : s ≡ joined t.earlier ++ (t.field ++ joined t.later) = sym (file_joined s) ∙ ap joined t.row ∙ joined_append t.earlier (t.field ∷ t.later) in
    let rest : drop k s ≡ t.field ++ joined t.later = ap (drop k) whole ∙ drop_at (joined t.earlier) (t.field ++ joined t.later) k t.place in
    ap (take (length t.field)) rest ∙ take_at t.field (joined t.later) (length t.field) refl
