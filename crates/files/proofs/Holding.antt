-- The reader while it holds the first bytes of a field: what it finds is the fault of these bytes.
use mathlib.Core.Path.{◌≡◌, refl, ap, ◌∙◌}
use mathlib.Core.Bool.{Bool, not}
use mathlib.Core.List.{List, [], ◌∷◌, ◌++◌}
use Prim.Native.Nat.{ℕ, ◌<◌}
use native.Mathlib.Omega.{arith}
use lib.Dec.{leb, eqb}
use lib.ListN.{length, length-append}
use borrow.Author.Tests.{lt-ltb, ne_eqb}
use Rattle.tasks.proofs.Bools.{not_twice}
use Rattle.tasks.specs.Answers.{Refused}
use Rattle.plans.specs.declared.Plan.{Plan}
use Rattle.files.specs.Fields.{tag_fits, verdict, hold, settled, step, read, refused_field}
use Rattle.files.specs.declared.Field.{Field}
use Rattle.files.specs.declared.Reader.{Reader}
use Rattle.files.proofs.Fields.{reader, hold_is, step_good, read_refused, settled_bad}
use Rattle.files.specs.Reading.{ended, ended_after}
use Rattle.files.specs.Grammar.{filled_to, refusal, Before, in_place, values_fault, fault}
use Rattle.files.proofs.Filled.{filled_get, filled_set}

-- the reader's field at place k, of which the bytes f were read
abbrev pub holding : Bool → ℕ → ℕ → Bool → List ℕ → Field
holding o k e w f = record { pieces = o; bad = 0; place = k; end = e; misshapen = w; count = length f; bytes = filled_to 15 0 f }

-- what the reader knows of the fields before: nothing came before place 0, and a piece came if the tasks ended before k
abbrev pub known : ℕ → ℕ → ℕ → Before
known k e n = record { none = eqb k 0; piece = not (leb k e); tasks = n }

-- a reader that, if the file ends now, refuses with this number and place, whatever number of tasks it read
abbrev pub Refuses : Reader → ℕ → ℕ → Type 0
Refuses r x k = (n : ℕ) → ended_after r.field n ≡ Refused (refusal x k)

module _ (o : Bool) (k e : ℕ) (w : Bool) where
  -- the verdict on the bytes so far is their fault
  pub verdict_is : (f : List ℕ) (n : ℕ) → verdict (holding o k e w f) n ≡ fault o (known k e n) f
  unfolding verdict fault tag_fits in_place values_fault
  verdict_is f n = simp (filled_get, not_twice)

  -- one byte more is held
  pub hold_one : (f : List ℕ) (x : ℕ) → length f < 15 → hold (holding o k e w f) x ≡ holding o k e w (f ++ (x ∷ []))
  hold_one f x h = hold_is (holding o k e w f) x h ∙ rw (filled_set 15 0 f x h, length-append f (x ∷ []))

  module _ (p : Plan) where
    -- one byte more is read
    pub step_one : (f : List ℕ) (x : ℕ) → length f < 15 → step (reader (holding o k e w f) p) x ≡ settled (fault o (known k e p.count) (f ++ (x ∷ []))) (holding o k e w (f ++ (x ∷ []))) p
    step_one f x h = step_good (holding o k e w f) p x refl ∙ rw (hold_one f x h, verdict_is (f ++ (x ∷ [])) p.count)

    -- a file that ends inside a field
    pub cut_refuses : (x : ℕ) (f : List ℕ) → Refuses (reader (holding o k e w (x ∷ f)) p) 1 k
    unfolding ended
    cut_refuses x f n = rw (lt-ltb 0 (length (x ∷ f)) (omega arith))

    -- a bad field, whatever follows it
    pub bad_refuses : (v : ℕ) (f rest : List ℕ) → (v ≡ 0 → ⊥) → (v ≡ 1 → ⊥) → Refuses (read (settled v (holding o k e w f) p) rest) v k
    unfolding ended
    bad_refuses v f rest a b n =
        let q : read (settled v (holding o k e w f) p) rest ≡ reader (refused_field (holding o k e w f) v) p = ap (λ (r : Reader). read r rest) (settled_bad v (holding o k e w f) p a b) ∙ read_refused (refused_field (holding o k e w f) v) p rest a in
        ap (λ (r : Reader). ended_after r.field n) q ∙ simp (ne_eqb v 0 a)
