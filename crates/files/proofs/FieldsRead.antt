-- Field after field: reading a list of bytes refuses its first bad field, or comes to the end behind good ones.
use mathlib.Core.Path.{◌≡◌, refl, sym, ap, ◌∙◌}
use mathlib.Core.Bool.{Bool, true, false}
use mathlib.Core.List.{List, [], ◌∷◌, append-nil}
use mathlib.Core.Logic.{◌⊎◌, inl, inr}
use Prim.Native.Nat.{ℕ, zero, suc, ◌+◌, ◌≤◌}
use native.Mathlib.Omega.{arith}
use lib.Dec.{eqb}
use lib.ListN.{length, take, drop, length-append, length-drop, take-append-drop}
use borrow.Author.Tests.{eq-eqb, ne_eqb}
use Rattle.tasks.specs.Answers.{Answer, Accepted, Refused}
use Rattle.tasks.specs.declared.Task.{Task}
use Rattle.plans.specs.declared.Piece.{Piece}
use Rattle.files.specs.Fields.{field_at, taken, read}
use Rattle.files.specs.declared.Reader.{Reader}
use Rattle.files.proofs.Fields.{reader}
use Rattle.files.specs.Grammar.{field_length, refusal, Before, cut, behind, fault, judged, tasks_in, pieces_in, kinds_fit, record_of}
use Rattle.files.proofs.Holding.{holding, known, Refuses}
use Rattle.files.proofs.OneField.{FieldRead, one_field}
use Rattle.files.proofs.Named.{cores_from, end_none}
use Rattle.files.proofs.Turns.{Through, Turn, good_turn}

-- the answer a is the refusal that the reader gives
pub record Stopped (a : Answer) (r : Reader) : Type 0 where
  pub number : ℕ
  pub place : ℕ
  pub is : a ≡ Refused (refusal number place)
  pub refuses : Refuses r number place

-- the fields fs, which begin at k with the rest known, are read as they are judged
abbrev pub FieldsRead : Bool → ℕ → ℕ → Bool → ℕ → List Task → List Piece → List (List ℕ) → Reader → Type 0
FieldsRead o k e w m ts ps fs r =
    Stopped (judged o (known k e (length ts)) k fs) r
    ⊎ ((judged o (known k e (length ts)) k fs ≡ Accepted) × Through o k e w m ts ps fs r)

-- no field names no other core count
cores_none : (b : Bool) (m : ℕ) → cores_from b m [] ≡ m
cores_none true m = refl
cores_none false m = refl

-- no field is left
no_field : (o : Bool) (k e : ℕ) (w : Bool) (m : ℕ) (ts : List Task) (ps : List Piece) → e ≤ k → FieldsRead o k e w m ts ps [] (read (reader (field_at o k e w) (record_of m ts ps)) [])
unfolding judged read tasks_in pieces_in kinds_fit
no_field o k e w m ts ps low = inr (
  refl,
  record {
    place = k;
    spoilt = w;
    taken = ps;
    is = rw (end_none k e low, cores_none (eqb k 0) m, append-nil ts);
    plain = λ q. (q, (sym (append-nil ps), refl));
    spoils = λ q. inl q;
  },
)

module _ (o : Bool) (k e : ℕ) (w : Bool) (m : ℕ) (ts : List Task) (ps : List Piece) (f : List ℕ) (fs : List (List ℕ)) where
  -- a bad field
  bad_field : (r : Reader) → (fault o (known k e (length ts)) f ≡ 0 → ⊥) → Refuses r (fault o (known k e (length ts)) f) k → FieldsRead o k e w m ts ps (f ∷ fs) r
  unfolding judged
  bad_field r a h = inl (record { number = fault o (known k e (length ts)) f; place = k; is = rw (ne_eqb (fault o (known k e (length ts)) f) 0 a); refuses = h })

  -- a good field, and those behind it
  good_field : (s rest : List ℕ) → fault o (known k e (length ts)) f ≡ 0 → (t : Turn o k e w m ts ps f)
      → read (reader (field_at o k e w) (record_of m ts ps)) s ≡ read (taken (holding o k e w f) (record_of m ts ps)) rest
      → FieldsRead o (k + length f) t.end t.spoilt t.cores t.tasks t.pieces fs (read (reader (field_at o (k + length f) t.end t.spoilt) (record_of t.cores t.tasks t.pieces)) rest)
      → FieldsRead o k e w m ts ps (f ∷ fs) (read (reader (field_at o k e w) (record_of m ts ps)) s)
  unfolding judged
  good_field s rest z t q h = go h
    where
      same : judged o (known k e (length ts)) k (f ∷ fs) ≡ judged o (known (k + length f) t.end (length t.tasks)) (k + length f) fs
      same = first ∙ ap (λ (b : Before). judged o b (k + length f) fs) t.before
        where
          first : judged o (known k e (length ts)) k (f ∷ fs) ≡ judged o (behind (known k e (length ts)) f) (k + length f) fs
          first = rw (eq-eqb (fault o (known k e (length ts)) f) 0 z)

      onward : read (reader (field_at o k e w) (record_of m ts ps)) s ≡ read (reader (field_at o (k + length f) t.end t.spoilt) (record_of t.cores t.tasks t.pieces)) rest
      onward = q ∙ ap (λ (r : Reader). read r rest) t.next

      go : FieldsRead o (k + length f) t.end t.spoilt t.cores t.tasks t.pieces fs (read (reader (field_at o (k + length f) t.end t.spoilt) (record_of t.cores t.tasks t.pieces)) rest)
          → FieldsRead o k e w m ts ps (f ∷ fs) (read (reader (field_at o k e w) (record_of m ts ps)) s)
      go (inl b) = inl (record { number = b.number; place = b.place; is = same ∙ b.is; refuses = rw onward b.refuses })
      go (inr b) = inr (same ∙ b.0, rw onward (t.back fs _ b.1))

-- a list of bytes, cut into its fields
pub fields_read : (n : ℕ) (s : List ℕ) (o : Bool) (k e : ℕ) (w : Bool) (m : ℕ) (ts : List Task) (ps : List Piece) → length s ≤ n → e ≤ k → k + length s ≤ 18446744073709551615
    → FieldsRead o k e w m ts ps (cut n s) (read (reader (field_at o k e w) (record_of m ts ps)) s)
unfolding cut
fields_read zero [] o k e w m ts ps l low most = no_field o k e w m ts ps low
fields_read zero (x ∷ s) o k e w m ts ps l low most = absurd (omega arith)
fields_read (suc n) [] o k e w m ts ps l low most = no_field o k e w m ts ps low
fields_read (suc n) (x ∷ s) o k e w m ts ps l low most = go (one_field o k e w (record_of m ts ps) x s) (fields_read n (drop (field_length (x ∷ s)) (x ∷ s)) o)
  where
    parts : length (take (field_length (x ∷ s)) (x ∷ s)) + length (drop (field_length (x ∷ s)) (x ∷ s)) ≡ length (x ∷ s)
    parts = sym (length-append (take (field_length (x ∷ s)) (x ∷ s)) (drop (field_length (x ∷ s)) (x ∷ s))) ∙ ap length (take-append-drop (field_length (x ∷ s)) (x ∷ s))

    go : FieldRead o k e w (record_of m ts ps) (x ∷ s) (take (field_length (x ∷ s)) (x ∷ s)) (drop (field_length (x ∷ s)) (x ∷ s))
        → ((k' e' : ℕ) (w' : Bool) (m' : ℕ) (ts' : List Task) (ps' : List Piece) → length (drop (field_length (x ∷ s)) (x ∷ s)) ≤ n → e' ≤ k' → k' + length (drop (field_length (x ∷ s)) (x ∷ s)) ≤ 18446744073709551615
        → FieldsRead o k' e' w' m' ts' ps' (cut n (drop (field_length (x ∷ s)) (x ∷ s))) (read (reader (field_at o k' e' w') (record_of m' ts' ps')) (drop (field_length (x ∷ s)) (x ∷ s))))
        → FieldsRead o k e w m ts ps (take (field_length (x ∷ s)) (x ∷ s) ∷ cut n (drop (field_length (x ∷ s)) (x ∷ s))) (read (reader (field_at o k e w) (record_of m ts ps)) (x ∷ s))
    go (inl b) ih = bad_field o k e w m ts ps _ _ _ b.0 b.1
    go (inr b) ih =
        let t : Turn o k e w m ts ps (take (field_length (x ∷ s)) (x ∷ s)) = good_turn o k e w m ts ps (take (field_length (x ∷ s)) (x ∷ s)) low (omega (arith, parts)) b.0 in
        good_field o k e w m ts ps _ _ (x ∷ s) _ b.0 t b.1 (ih (k + length (take (field_length (x ∷ s)) (x ∷ s))) t.end t.spoilt t.cores t.tasks t.pieces (omega (arith, length-drop (field_length (x ∷ s)) (x ∷ s))) t.ends (omega (arith, parts)))
