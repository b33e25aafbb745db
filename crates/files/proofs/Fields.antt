-- Laws of fields: what a field is found to be, what follows it, one byte more, and what a refusal does.
use mathlib.Core.Path.{◌≡◌, refl, sym, ap, ◌∙◌}
use mathlib.Core.Bool.{Bool, true, false, not, ◌&&◌, ◌||◌, cond}
use mathlib.Core.List.{List, [], ◌∷◌}
use Prim.Native.Nat.{ℕ, suc, ◌+◌, ◌<◌, ◌≤◌}
use native.Mathlib.Decide.{ℕ_discrete}
use native.Mathlib.Numerals.{add-one}
use native.Mathlib.Omega.{arith}
use lib.Dec.{ltb, leb, eqb}
use lib.ListN.{length, get_or, set, drop, drop_of_length-le}
use lib.Seq.{drop-cons}
use borrow.Author.Tests.{leb-false, ltb-true, eq-eqb, ne_eqb, lt-ltb, le-ltb}
use Rattle.tasks.proofs.Bools.{both}
use Rattle.tasks.specs.Places.{further}
use Rattle.plans.specs.declared.Plan.{Plan}
use Rattle.files.specs.Grammar.{number2, length_for}
use Rattle.files.specs.Fields.{tag, tag_fits, task_in, piece_in, values, verdict, hold, field_at, piece_taken, next_field, with_cores, with_task, with_piece, added, refused_field, settled, step, read}
use Rattle.files.specs.declared.Field.{Field}
use Rattle.files.specs.declared.Reader.{Reader}

abbrev pub reader : Field → Plan → Reader
reader f p = record { field = f; plan = p }

-- ---- what a field is found to be

-- no body is longer than a task's
pub length_most : (g : ℕ) → length_for g ≤ 12
length_most g = go (eqb g 1) (eqb g 2)
  where
    go : (a b : Bool) → cond a 1 (cond b 12 7) ≤ 12
    go true b = omega arith
    go false true = omega arith
    go false false = omega arith

-- a field with a good header waits for its body, or is judged by its values
module _ (f : Field) (n : ℕ) (header : 3 ≤ f.count) (fits : tag_fits f ≡ true) (room : eqb (tag f) 2 && leb 64 n ≡ false) (size : number2 f.bytes 1 ≡ length_for (tag f)) where
  pub body_waits : f.count < 3 + length_for (tag f) → 1 ≡ verdict f n
  unfolding verdict
  body_waits h = rw (le-ltb f.count 3 header, fits, room, eq-eqb (number2 f.bytes 1) (length_for (tag f)) size, lt-ltb f.count (3 + length_for (tag f)) h)

  pub body_whole : 3 + length_for (tag f) ≤ f.count → values f ≡ verdict f n
  unfolding verdict
  body_whole h = rw (le-ltb f.count 3 header, fits, room, eq-eqb (number2 f.bytes 1) (length_for (tag f)) size, le-ltb f.count (3 + length_for (tag f)) h)

-- ---- what follows a good field

-- a piece that is not taken spoils the shape
spoilt : (taken w : Bool) → w || not taken ≡ cond taken w true
spoilt true true = refl
spoilt true false = refl
spoilt false true = refl
spoilt false false = refl

module _ (f : Field) (n p : ℕ) (at : p ≡ further f.place f.count) where
  pub next_piece : tag f ≡ 3 → field_at f.pieces p f.end (f.misshapen || not (ltb (get_or f.bytes 5 0) 2 && ltb n 128)) ≡ next_field f n
  unfolding next_field piece_taken
  next_piece t = rw (at, eq-eqb (tag f) 3 t, spoilt (ltb (get_or f.bytes 5 0) 2 && ltb n 128) f.misshapen)

  pub next_other : (tag f ≡ 3 → ⊥) → field_at f.pieces p p f.misshapen ≡ next_field f n
  unfolding next_field
  next_other t = rw (at, ne_eqb (tag f) 3 t)

module _ (f : Field) (p : Plan) where
  pub piece_added : tag f ≡ 3 → ltb (get_or f.bytes 5 0) 2 && ltb p.placed 128 ≡ true → with_piece p (piece_in f) ≡ added f p
  unfolding added piece_taken
  piece_added t h = rw (eq-eqb (tag f) 3 t, h)

  pub piece_left : tag f ≡ 3 → ltb (get_or f.bytes 5 0) 2 && ltb p.placed 128 ≡ false → p ≡ added f p
  unfolding added piece_taken
  piece_left t h = rw (eq-eqb (tag f) 3 t, h)

  module _ (other : tag f ≡ 3 → ⊥) where
    pub cores_added : tag f ≡ 1 → with_cores p (get_or f.bytes 3 0) ≡ added f p
    unfolding added
    cores_added t = rw (ne_eqb (tag f) 3 other, eq-eqb (tag f) 1 t)

    pub task_added : (tag f ≡ 1 → ⊥) → with_task p (task_in f) ≡ added f p
    unfolding added
    task_added t = rw (ne_eqb (tag f) 3 other, ne_eqb (tag f) 1 t)

-- a piece that is taken is no 129th
pub piece_room : (f : Field) (n : ℕ) → ltb (get_or f.bytes 5 0) 2 && ltb n 128 ≡ true → n < 128
piece_room f n h = ltb-true n 128 (both {a = ltb (get_or f.bytes 5 0) 2} h).1

-- ---- byte after byte

-- after a bad field nothing is read any more
step_refused : (f : Field) (p : Plan) (b : ℕ) → (f.bad ≡ 0 → ⊥) → step (reader f p) b ≡ reader f p
unfolding step
step_refused f p b e = rw (ne_eqb f.bad 0 e)

pub read_refused : (f : Field) (p : Plan) (s : List ℕ) → (f.bad ≡ 0 → ⊥) → read (reader f p) s ≡ reader f p
unfolding read
read_refused f p [] e = refl
read_refused f p (b ∷ s) e = ap (λ (r : Reader). read r s) (step_refused f p b e) ∙ read_refused f p s e

pub step_good : (f : Field) (p : Plan) (b : ℕ) → f.bad ≡ 0 → step (reader f p) b ≡ settled (verdict (hold f b) p.count) (hold f b) p
unfolding step
step_good f p b e = rw (eq-eqb f.bad 0 e)

-- a byte more, where there is room for it
pub hold_is : (f : Field) (b : ℕ) → f.count < 15
    → hold f b ≡ record { pieces = f.pieces; bad = f.bad; place = f.place; end = f.end; misshapen = f.misshapen; count = f.count + 1; bytes = set f.bytes f.count b }
unfolding hold
hold_is f b h = rw (lt-ltb f.count 15 h)

-- a byte more is held of the same file
pub hold_bad : (f : Field) (b : ℕ) → (hold f b).bad ≡ f.bad
unfolding hold
hold_bad f b = go (ltb f.count 15)
  where
    go : (t : Bool) → ◌≡◌ {A = ℕ} (cond t (record { pieces = f.pieces; bad = f.bad; place = f.place; end = f.end; misshapen = f.misshapen; count = f.count + 1; bytes = set f.bytes f.count b }) f).bad f.bad
    go true = refl
    go false = refl

-- one byte more
pub read_more : (f : Field) (p : Plan) (s : List ℕ) (i : ℕ) (g : Field) (v : ℕ) (whole : Reader)
    → i < length s → f.bad ≡ 0 → g ≡ hold f (get_or s i 0) → v ≡ verdict g p.count
    → read (reader f p) (drop i s) ≡ whole → read (settled v g p) (drop (i + 1) s) ≡ whole
unfolding read
read_more f p s i g v whole h e eg ev k =
    rw (ev, eg, add-one) (ap (λ (r : Reader). read r (drop (suc i) s)) (sym (step_good f p (get_or s i 0) e)) ∙ (rw (drop-cons s i 0 h) at k))

-- a field that is neither good nor waiting is refused
pub settled_bad : (v : ℕ) (f : Field) (p : Plan) → (v ≡ 0 → ⊥) → (v ≡ 1 → ⊥) → settled v f p ≡ reader (refused_field f v) p
settled_bad v f p a b = rw (ne_eqb v 0 a, ne_eqb v 1 b)

-- there is room for a good task
pub good_room : (f : Field) (n : ℕ) → verdict f n ≡ 0 → (tag f ≡ 3 → ⊥) → (tag f ≡ 1 → ⊥) → n < 64
unfolding verdict tag_fits
good_room f n h c a = go (ℕ_discrete (tag f) 2) _ refl
  where
    past : (w b : Bool) → ◌≡◌ {A = ℕ} (cond w 1 (cond (not b) 2 6)) 0 → n < 64
    past true b q = absurd (omega arith)
    past false true q = absurd (omega arith)
    past false false q = absurd (omega arith)

    none : (w : Bool) → ◌≡◌ {A = ℕ} (cond w 1 2) 0 → n < 64
    none true q = absurd (omega arith)
    none false q = absurd (omega arith)

    go : Dec (tag f ≡ 2) → (t : Bool) → leb 64 n ≡ t → n < 64
    go (no b) t u = none (ltb f.count 3) (rw (ne_eqb (tag f) 1 a, ne_eqb (tag f) 2 b, ne_eqb (tag f) 3 c) at h)
    go (yes e) true u = past (ltb f.count 3) (leb f.place f.end) (rw (ne_eqb (tag f) 1 a, eq-eqb (tag f) 2 e, u) at h)
    go (yes e) false u = leb-false 64 n u

-- past the end nothing is left to read
pub read_done : (r : Reader) (s : List ℕ) (i : ℕ) → length s ≤ i → read r (drop i s) ≡ r
unfolding read
read_done r s i h = ap (read r) (drop_of_length-le s {i = i} h)
