-- One field, read from its first byte: it is taken if it is good, and otherwise refused with its fault at its place.
use mathlib.Core.Path.{◌≡◌, refl, sym, ap, ◌∙◌}
use mathlib.Core.Bool.{Bool, true, false, not, ◌&&◌, cond}
use mathlib.Core.List.{List, [], ◌∷◌, ◌++◌, append_assoc, append-nil}
use mathlib.Core.Logic.{◌⊎◌, inl, inr}
use Prim.Native.Nat.{ℕ, suc, ◌+◌, ◌*◌, ◌<◌, ◌≤◌}
use native.Mathlib.Decide.{ℕ_discrete, dec_lt}
use native.Mathlib.Omega.{arith}
use lib.Dec.{leb, ltb, eqb}
use lib.ListN.{length, take, drop, length-append, take-append-drop}
use lib.Seq.{take_all, length-take-le}
use borrow.Author.Tests.{eqb-true, ne_eqb, lt-ltb, le-ltb}
use Rattle.plans.specs.declared.Plan.{Plan}
use Rattle.files.specs.Fields.{field_at, taken, settled, step, read}
use Rattle.files.specs.declared.Reader.{Reader}
use Rattle.files.proofs.Fields.{reader, length_most}
use Rattle.files.proofs.Found.{values_not_one}
use Rattle.files.specs.Grammar.{field_length, length_for, filled_to, Before, in_place, values_fault, fault}
use Rattle.files.proofs.Holding.{holding, known, Refuses, step_one, cut_refuses, bad_refuses}

-- ---- the fault of a field by its header and its body

-- what a whole header is refused with
unfoldable pub head_fault : Bool → Before → ℕ → ℕ → ℕ
head_fault o b x size = cond (not (in_place o b (x ∷ []))) 2 (cond (eqb x 2 && leb 64 b.tasks) 6 (cond (not (eqb size (length_for x))) 3 0))

-- a good header names the length that belongs to its tag
head_size : (o : Bool) (b : Before) (x size : ℕ) → head_fault o b x size ≡ 0 → size ≡ length_for x
unfolding head_fault
head_size o b x size h = go (in_place o b (x ∷ [])) (eqb x 2 && leb 64 b.tasks) _ refl h
  where
    go : (c d t : Bool) → eqb size (length_for x) ≡ t → ◌≡◌ {A = ℕ} (cond (not c) 2 (cond d 6 (cond (not t) 3 0))) 0 → size ≡ length_for x
    go c d true e q = eqb-true _ _ e
    go false d false e q = absurd (omega arith)
    go true true false e q = absurd (omega arith)
    go true false false e q = absurd (omega arith)

-- a header never waits
head_not_one : (o : Bool) (b : Before) (x size : ℕ) → head_fault o b x size ≡ 1 → ⊥
unfolding head_fault
head_not_one o b x size h = go (in_place o b (x ∷ [])) (eqb x 2 && leb 64 b.tasks) (eqb size (length_for x)) h
  where
    go : (c d t : Bool) → ◌≡◌ {A = ℕ} (cond (not c) 2 (cond d 6 (cond (not t) 3 0))) 1 → ⊥
    go false d t q = omega arith
    go true true t q = omega arith
    go true false false q = omega arith
    go true false true q = omega arith

-- a bad header decides, then whether the body is whole, then the values
fault_is : (o : Bool) (b : Before) (x y z : ℕ) (t : List ℕ) → fault o b (x ∷ y ∷ z ∷ t)
    ≡ cond (eqb (head_fault o b x (y * 256 + z)) 0) (cond (ltb (length t) (length_for x)) 1 (values_fault (x ∷ y ∷ z ∷ t))) (head_fault o b x (y * 256 + z))
unfolding fault head_fault in_place
fault_is o b x y z t = rw (le-ltb (length (x ∷ y ∷ z ∷ t)) 3 (omega arith), same) (go (cond (eqb x 1) b.none (cond (eqb x 2) (not b.piece) (cond (eqb x 3) o false))) (eqb x 2 && leb 64 b.tasks) (eqb (y * 256 + z) (length_for x)))
  where
    same : ltb (length (x ∷ y ∷ z ∷ t)) (3 + length_for x) ≡ ltb (length t) (length_for x)
    same = by (dec_lt (length t) (length_for x))
      where
        by : Dec (length t < length_for x) → ltb (length (x ∷ y ∷ z ∷ t)) (3 + length_for x) ≡ ltb (length t) (length_for x)
        by (yes l) = lt-ltb (length (x ∷ y ∷ z ∷ t)) (3 + length_for x) (omega arith) ∙ sym (lt-ltb (length t) (length_for x) l)
        by (no l) = le-ltb (length (x ∷ y ∷ z ∷ t)) (3 + length_for x) (omega arith) ∙ sym (le-ltb (length t) (length_for x) (omega arith))

    go : (c d u : Bool) → cond (not c) 2 (cond d 6 (cond (not u) 3 (cond (ltb (length t) (length_for x)) 1 (values_fault (x ∷ y ∷ z ∷ t)))))
        ≡ cond (eqb (cond (not c) 2 (cond d 6 (cond (not u) 3 0))) 0) (cond (ltb (length t) (length_for x)) 1 (values_fault (x ∷ y ∷ z ∷ t))) (cond (not c) 2 (cond d 6 (cond (not u) 3 0)))
    go false d u = refl
    go true true u = refl
    go true false false = refl
    go true false true = refl

-- every tag has a body
length_some : (x : ℕ) → 0 < length_for x
length_some x = go (eqb x 1) (eqb x 2)
  where
    go : (a b : Bool) → 0 < cond a 1 (cond b 12 7)
    go true b = omega arith
    go false true = omega arith
    go false false = omega arith

-- ---- a field behind a good header

module _ (o : Bool) (k e : ℕ) (w : Bool) (p : Plan) (x y z : ℕ) (good : head_fault o (known k e p.count) x (y * 256 + z) ≡ 0) where
  -- while the body is not whole the reader waits
  fault_short : (t : List ℕ) → length t < length_for x → fault o (known k e p.count) (x ∷ y ∷ z ∷ t) ≡ 1
  fault_short t l = fault_is o (known k e p.count) x y z t ∙ rw (good, lt-ltb (length t) (length_for x) l)

  -- a whole body leaves the values
  fault_whole : (t : List ℕ) → length_for x ≤ length t → fault o (known k e p.count) (x ∷ y ∷ z ∷ t) ≡ values_fault (x ∷ y ∷ z ∷ t)
  fault_whole t l = fault_is o (known k e p.count) x y z t ∙ rw (good, le-ltb (length t) (length_for x) l)

  -- a field that is not whole leaves room for a byte
  room : (t : List ℕ) → length t < length_for x → length (x ∷ y ∷ z ∷ t) < 15
  room t l = omega (arith, length_most x)

  -- a byte that does not complete the body
  waits : (t : List ℕ) (l : ℕ) → length t + 1 < length_for x → step (reader (holding o k e w (x ∷ y ∷ z ∷ t)) p) l ≡ reader (holding o k e w (x ∷ y ∷ z ∷ (t ++ (l ∷ [])))) p
  waits t l h = step_one o k e w p (x ∷ y ∷ z ∷ t) l (room t (omega arith)) ∙ ap (λ (v : ℕ). settled v (holding o k e w (x ∷ y ∷ z ∷ (t ++ (l ∷ [])))) p) (fault_short (t ++ (l ∷ [])) (omega (arith, length-append t (l ∷ []))))

  -- a body that is not whole is held
  read_short : (bs t : List ℕ) → length t + length bs < length_for x → read (reader (holding o k e w (x ∷ y ∷ z ∷ t)) p) bs ≡ reader (holding o k e w (x ∷ y ∷ z ∷ (t ++ bs))) p
  unfolding read
  read_short [] t h = rw append-nil
  read_short (l ∷ bs) t h = ap (λ (r : Reader). read r bs) (waits t l (omega arith)) ∙ read_short bs (t ++ (l ∷ [])) (omega (arith, length-append t (l ∷ []))) ∙ rw append_assoc

  -- a whole body is judged with its last byte
  read_whole : (bs t rest : List ℕ) → 0 < length bs → length t + length bs ≡ length_for x
      → read (reader (holding o k e w (x ∷ y ∷ z ∷ t)) p) (bs ++ rest) ≡ read (settled (fault o (known k e p.count) (x ∷ y ∷ z ∷ (t ++ bs))) (holding o k e w (x ∷ y ∷ z ∷ (t ++ bs))) p) rest
  unfolding read
  read_whole [] t rest a h = absurd (omega arith)
  read_whole (l ∷ []) t rest a h = ap (λ (r : Reader). read r rest) (step_one o k e w p (x ∷ y ∷ z ∷ t) l (room t (omega arith)))
  read_whole (l ∷ i ∷ bs) t rest a h = ap (λ (r : Reader). read r ((i ∷ bs) ++ rest)) (waits t l (omega arith)) ∙ read_whole (i ∷ bs) (t ++ (l ∷ [])) rest (omega arith) (omega (arith, length-append t (l ∷ []))) ∙ rw append_assoc

-- ---- a whole field

-- reading s from the start of a field g refuses it with its fault at its place, or takes it and goes on with the rest
abbrev pub FieldRead : Bool → ℕ → ℕ → Bool → Plan → List ℕ → List ℕ → List ℕ → Type 0
FieldRead o k e w p s g rest =
    ((fault o (known k e p.count) g ≡ 0 → ⊥) × Refuses (read (reader (field_at o k e w) p) s) (fault o (known k e p.count) g) k)
    ⊎ ((fault o (known k e p.count) g ≡ 0) × (read (reader (field_at o k e w) p) s ≡ read (taken (holding o k e w g) p) rest))

-- a front of three bytes is taken
take_three : (n x y z : ℕ) (s : List ℕ) → take (3 + n) (x ∷ y ∷ z ∷ s) ≡ x ∷ y ∷ z ∷ take n s
take_three n x y z s = let e : 3 + n ≡ suc (suc (suc n)) = omega arith in ap (λ (j : ℕ). take j (x ∷ y ∷ z ∷ s)) e

-- and dropped
drop_three : (n x y z : ℕ) (s : List ℕ) → drop (3 + n) (x ∷ y ∷ z ∷ s) ≡ drop n s
drop_three n x y z s = let e : 3 + n ≡ suc (suc (suc n)) = omega arith in ap (λ (j : ℕ). drop j (x ∷ y ∷ z ∷ s)) e

module _ (o : Bool) (k e : ℕ) (w : Bool) (p : Plan) where
  -- a field that is read up to a point where its fault is known and is no cut
  settles : (s g rest : List ℕ) (v : ℕ) → fault o (known k e p.count) g ≡ v → (v ≡ 1 → ⊥) → read (reader (field_at o k e w) p) s ≡ read (settled v (holding o k e w g) p) rest → FieldRead o k e w p s g rest
  settles s g rest v q a h = go (ℕ_discrete v 0)
    where
      go : Dec (v ≡ 0) → FieldRead o k e w p s g rest
      go (yes z) = inr (q ∙ z, h ∙ ap (λ (n : ℕ). read (settled n (holding o k e w g) p) rest) z)
      go (no z) = inl (λ c. z (sym q ∙ c), rw (q, h) (bad_refuses o k e w p v g rest z a))

  -- a file that ends inside the field
  ends_inside : (s : List ℕ) (x : ℕ) (g rest : List ℕ) → fault o (known k e p.count) (x ∷ g) ≡ 1 → read (reader (field_at o k e w) p) s ≡ reader (holding o k e w (x ∷ g)) p → FieldRead o k e w p s (x ∷ g) rest
  ends_inside s x g rest q h = inl (λ c. absurd (omega arith), rw (q, h) (cut_refuses o k e w p x g))

  -- the first byte of a header waits
  one_read : (x : ℕ) (s : List ℕ) → read (reader (field_at o k e w) p) (x ∷ s) ≡ read (reader (holding o k e w (x ∷ [])) p) s
  unfolding read fault filled_to
  one_read x s = ap (λ (r : Reader). read r s) (step_one o k e w p [] x (omega arith))

  -- the second byte waits too
  two_read : (x y : ℕ) (s : List ℕ) → read (reader (field_at o k e w) p) (x ∷ y ∷ s) ≡ read (reader (holding o k e w (x ∷ y ∷ [])) p) s
  unfolding read fault
  two_read x y s = one_read x (y ∷ s) ∙ ap (λ (r : Reader). read r s) (step_one o k e w p (x ∷ []) y (omega arith))

  -- with the third the header is judged
  three_read : (x y z : ℕ) (s : List ℕ) → read (reader (field_at o k e w) p) (x ∷ y ∷ z ∷ s) ≡ read (settled (fault o (known k e p.count) (x ∷ y ∷ z ∷ [])) (holding o k e w (x ∷ y ∷ z ∷ [])) p) s
  unfolding read
  three_read x y z s = two_read x y (z ∷ s) ∙ ap (λ (r : Reader). read r s) (step_one o k e w p (x ∷ y ∷ []) z (omega arith))

  -- a field with a whole header
  headed : (x y z : ℕ) (s : List ℕ) → FieldRead o k e w p (x ∷ y ∷ z ∷ s) (x ∷ y ∷ z ∷ take (y * 256 + z) s) (drop (y * 256 + z) s)
  headed x y z s = go (ℕ_discrete (head_fault o (known k e p.count) x (y * 256 + z)) 0)
    where
      bad_header : (t : List ℕ) → (head_fault o (known k e p.count) x (y * 256 + z) ≡ 0 → ⊥) → fault o (known k e p.count) (x ∷ y ∷ z ∷ t) ≡ head_fault o (known k e p.count) x (y * 256 + z)
      bad_header t a = fault_is o (known k e p.count) x y z t ∙ rw (ne_eqb (head_fault o (known k e p.count) x (y * 256 + z)) 0 a)

      body : (n : ℕ) → n ≡ length_for x → head_fault o (known k e p.count) x (y * 256 + z) ≡ 0 → Dec (length s < length_for x) → FieldRead o k e w p (x ∷ y ∷ z ∷ s) (x ∷ y ∷ z ∷ take n s) (drop n s)
      body n q a d = part d
        where
          opened : read (reader (field_at o k e w) p) (x ∷ y ∷ z ∷ s) ≡ read (reader (holding o k e w (x ∷ y ∷ z ∷ [])) p) s
          opened = three_read x y z s ∙ ap (λ (v : ℕ). read (settled v (holding o k e w (x ∷ y ∷ z ∷ [])) p) s) (fault_short o k e w p x y z a [] (length_some x))

          part : Dec (length s < length_for x) → FieldRead o k e w p (x ∷ y ∷ z ∷ s) (x ∷ y ∷ z ∷ take n s) (drop n s)
          part (yes l) = rw (take_all n s (omega arith)) (ends_inside (x ∷ y ∷ z ∷ s) x (y ∷ z ∷ s) (drop n s) (fault_short o k e w p x y z a s l) (opened ∙ read_short o k e w p x y z a s [] (omega arith)))
          part (no l) =
              let whole : length (take n s) ≡ length_for x = length-take-le n s (omega arith) ∙ q in
              let v : fault o (known k e p.count) (x ∷ y ∷ z ∷ take n s) ≡ values_fault (x ∷ y ∷ z ∷ take n s) = fault_whole o k e w p x y z a (take n s) (omega arith) in
              settles (x ∷ y ∷ z ∷ s) (x ∷ y ∷ z ∷ take n s) (drop n s) (values_fault (x ∷ y ∷ z ∷ take n s)) v (values_not_one (x ∷ y ∷ z ∷ take n s))
              (opened ∙ ap (read (reader (holding o k e w (x ∷ y ∷ z ∷ [])) p)) (sym (take-append-drop n s))
              ∙ read_whole o k e w p x y z a (take n s) [] (drop n s) (omega (arith, length_some x)) (omega arith)
              ∙ ap (λ (u : ℕ). read (settled u (holding o k e w (x ∷ y ∷ z ∷ take n s)) p) (drop n s)) v)

      go : Dec (head_fault o (known k e p.count) x (y * 256 + z) ≡ 0) → FieldRead o k e w p (x ∷ y ∷ z ∷ s) (x ∷ y ∷ z ∷ take (y * 256 + z) s) (drop (y * 256 + z) s)
      go (yes a) = body (y * 256 + z) (head_size o (known k e p.count) x (y * 256 + z) a) a (dec_lt (length s) (length_for x))
      go (no a) = inl (λ c. a (sym (bad_header (take (y * 256 + z) s) a) ∙ c), rw (bad_header (take (y * 256 + z) s) a, three_read x y z s, bad_header [] a) (bad_refuses o k e w p (head_fault o (known k e p.count) x (y * 256 + z)) (x ∷ y ∷ z ∷ []) s a (head_not_one o (known k e p.count) x (y * 256 + z))))

  -- a field, cut as its header says
  pub one_field : (x : ℕ) (s : List ℕ) → FieldRead o k e w p (x ∷ s) (take (field_length (x ∷ s)) (x ∷ s)) (drop (field_length (x ∷ s)) (x ∷ s))
  unfolding fault read
  one_field x [] = ends_inside (x ∷ []) x [] [] refl (one_read x [])
  one_field x (y ∷ []) = rw (take_all (field_length (x ∷ y ∷ [])) (x ∷ y ∷ []) (omega arith)) (ends_inside (x ∷ y ∷ []) x (y ∷ []) (drop (field_length (x ∷ y ∷ [])) (x ∷ y ∷ [])) refl (two_read x y []))
  one_field x (y ∷ z ∷ s) = rw (take_three (y * 256 + z) x y z s, drop_three (y * 256 + z) x y z s) (headed x y z s)
