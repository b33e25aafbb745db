-- What a field writer writes is read as the field that it was written for.
use mathlib.Core.Path.{◌≡◌, refl, sym, ap, ◌∙◌}
use mathlib.Core.Bool.{Bool, true, false, ◌&&◌}
use mathlib.Core.List.{List, [], ◌∷◌, ◌++◌}
use Prim.Native.Nat.{ℕ, ◌+◌, ◌/◌, ◌%◌, ◌≤◌, ◌<◌}
use native.Mathlib.Omega.{arith}
use lib.Dec.{leb, ltb, eqb}
use lib.ListN.{length, get_or, set, replicate}
use lib.Seq.{get_or-set_other}
use borrow.Author.Tests.{le-leb, lt-leb, lt-ltb}
use Rattle.tasks.proofs.Tables.{Ranges, values_say}
use Rattle.tasks.specs.Tables.{cores_fit, values_fit}
use Rattle.tasks.specs.declared.Task.{Task}
use Rattle.plans.specs.declared.Kind.{Kind}
use Rattle.plans.specs.declared.Kind.TheVariants.{Whole, Share}
use Rattle.plans.specs.declared.Piece.{Piece}
use Rattle.plans.specs.declared.Plan.{Plan}
use Rattle.tasks.specs.Places.{further}
use Rattle.files.specs.Grammar.{number2, number4, length_for, kind_of, empty_plan, values_fault}
use Rattle.files.specs.Fields.{tag, tag_fits, values, verdict, hold, field_at, piece_taken, next_field, with_task, with_piece, added, settled, step, read}
use Rattle.files.specs.Reading.{begun}
use Rattle.writing.specs.Fields.{bytes4, kind_byte, core_field, task_field, piece_field}
use Rattle.files.specs.declared.Default.{Default}
use Rattle.files.specs.declared.Field.{Field}
use Rattle.files.specs.declared.Reader.{Reader}
use Rattle.trips.proofs.Numbers.{number_back}
use Rattle.files.proofs.Fields.{reader, length_most, body_waits, body_whole, hold_is, step_good, hold_bad}

-- the header of a field is whole and good, n tasks having been read
pub record Headed (f : Field) (n : ℕ) : Type 0 where
  pub whole : 3 ≤ f.count
  pub fits : tag_fits f ≡ true
  pub room : eqb (tag f) 2 && leb 64 n ≡ false
  pub size : number2 f.bytes 1 ≡ length_for (tag f)

module _ (f : Field) (n : ℕ) (h : Headed f n) where
  pub headed_waits : f.count < 3 + length_for (tag f) → verdict f n ≡ 1
  headed_waits l = sym (body_waits f n h.whole h.fits h.room h.size l)

  pub headed_whole : 3 + length_for (tag f) ≤ f.count → verdict f n ≡ values f
  headed_whole l = sym (body_whole f n h.whole h.fits h.room h.size l)

  module _ (b : ℕ) (l : f.count < 15) where
    same_byte : (i : ℕ) → i < 3 → get_or (set f.bytes f.count b) i 0 ≡ get_or f.bytes i 0
    same_byte i k = get_or-set_other f.bytes f.count i b 0 (λ e. omega (arith, h.whole))

    pub hold_tag : tag (hold f b) ≡ tag f
    hold_tag = rw (hold_is f b l) (same_byte 0 (omega arith))

    pub hold_count : (hold f b).count ≡ f.count + 1
    hold_count = ap (λ (g : Field). g.count) (hold_is f b l)

    pub headed_hold : Headed (hold f b) n
    unfolding tag_fits
    headed_hold = rw (hold_is f b l) (record {
      whole = omega (arith, h.whole);
      fits = rw (same_byte 0 (omega arith)) h.fits;
      room = rw (same_byte 0 (omega arith)) h.room;
      size = rw (same_byte 0 (omega arith), same_byte 1 (omega arith), same_byte 2 (omega arith)) h.size;
    })

-- several bytes more
unfoldable pub holds : Field → List ℕ → Field
holds f [] = f
holds f (b ∷ bs) = holds (hold f b) bs

-- a body is held as it comes in, and judged with its last byte
pub read_body : (bs : List ℕ) (z : ℕ) (f : Field) (p : Plan) → f.bad ≡ 0 → Headed f p.count → f.count + length bs + 1 ≡ 3 + length_for (tag f)
    → read (reader f p) (bs ++ (z ∷ [])) ≡ settled (values (hold (holds f bs) z)) (hold (holds f bs) z) p
unfolding read holds
read_body [] z f p a h e =
    let l : f.count < 15 = omega (arith, length_most (tag f)) in
    step_good f p z a ∙ ap (λ (v : ℕ). settled v (hold f z) p) (headed_whole (hold f z) p.count (headed_hold f _ h z l) (rw (hold_tag f _ h z l, hold_count f _ h z l) (omega arith)))
read_body (b ∷ bs) z f p a h e =
    let l : f.count < 15 = omega (arith, length_most (tag f)) in
    let g : Headed (hold f b) p.count = headed_hold f _ h b l in
    let waits : step (reader f p) b ≡ reader (hold f b) p = step_good f p b a ∙ ap (λ (v : ℕ). settled v (hold f b) p) (headed_waits (hold f b) p.count g (rw (hold_tag f _ h b l, hold_count f _ h b l) (omega arith))) in
    ap (λ (r : Reader). read r (bs ++ (z ∷ []))) waits ∙ read_body bs z (hold f b) p (hold_bad f b ∙ a) g (rw (hold_tag f _ h b l, hold_count f _ h b l) (omega arith))

-- the field at a place, of which the header was read
abbrev header : Bool → ℕ → ℕ → Bool → ℕ → ℕ → ℕ → Field
header o q e w a b c = record { pieces = o; bad = 0; place = q; end = e; misshapen = w; count = 3; bytes = a ∷ b ∷ c ∷ replicate 12 0 }

module _ (o : Bool) (q e : ℕ) (w : Bool) (p : Plan) where
  read_header : (a b c : ℕ) (bs : List ℕ) → Headed (header o q e w a b c) p.count → 0 < length_for a → read (reader (field_at o q e w) p) (a ∷ b ∷ c ∷ bs) ≡ read (reader (header o q e w a b c) p) bs
  unfolding read step hold verdict
  read_header a b c bs h l = ap (λ (v : ℕ). read (settled v (header o q e w a b c) p) bs) (headed_waits (header o q e w a b c) p.count h (omega arith))

  read_written : (a b c : ℕ) (bs : List ℕ) (z : ℕ) → Headed (header o q e w a b c) p.count → 0 < length_for a → length bs + 1 ≡ length_for a
      → read (reader (field_at o q e w) p) (a ∷ b ∷ c ∷ (bs ++ (z ∷ []))) ≡ settled (values (hold (holds (header o q e w a b c) bs) z)) (hold (holds (header o q e w a b c) bs) z) p
  read_written a b c bs z h l k = read_header a b c (bs ++ (z ∷ [])) h l ∙ read_body bs z (header o q e w a b c) p refl h (omega arith)

-- the first three bytes of a number
abbrev first3 : ℕ → List ℕ
first3 x = x / 16777216 % 256 ∷ x / 65536 % 256 ∷ x / 256 % 256 ∷ []

-- a core count is read at the start of a file
pub read_cores : (d : Default) (o : Bool) (m : ℕ) → cores_fit m ≡ true → read (begun d o) (core_field m) ≡ reader (field_at o 4 4 false) (empty_plan m)
unfolding read step hold verdict tag_fits values_fault next_field added further core_field
read_cores d o m h = rw h

-- a task is read where no piece was
pub read_task : (o : Bool) (q : ℕ) (w : Bool) (p : Plan) (t : Task) → p.count < 64 → values_fit t ≡ true
    → read (reader (field_at o q q w) p) (task_field t) ≡ reader (field_at o (further q 15) (further q 15) w) (with_task p t)
unfolding task_field tag_fits hold holds values_fault next_field added
read_task o q w p t l v =
    let r : Ranges t = values_say t v in
    let c : number4 (bytes4 t.cost) 0 ≡ t.cost = number_back t.cost (omega arith) in
    let d : number4 (bytes4 t.deadline) 0 ≡ t.deadline = number_back t.deadline (omega arith) in
    let y : number4 (bytes4 t.period) 0 ≡ t.period = number_back t.period (omega arith) in
    read_written o q q w p 2 0 12 (bytes4 t.cost ++ (bytes4 t.deadline ++ first3 t.period)) (t.period % 256) (record { whole = omega arith; fits = le-leb q q (omega arith); room = lt-leb 64 p.count l; size = refl }) (omega arith) refl ∙ rw (c, d, y, v)

pub kind_back : (k : Kind) → kind_of (kind_byte k) ≡ k
kind_back Whole = refl
kind_back Share = refl

kind_taken : (k : Kind) → ltb (kind_byte k) 2 ≡ true
kind_taken Whole = refl
kind_taken Share = refl

-- a piece is read in a plan file
pub read_piece : (q e : ℕ) (w : Bool) (p : Plan) (z : Piece) → p.placed < 128 → z.cost < 4294967296
    → read (reader (field_at true q e w) p) (piece_field z) ≡ reader (field_at true (further q 10) e w) (with_piece p z)
unfolding piece_field tag_fits hold holds values_fault next_field added piece_taken
read_piece q e w p z l v =
    let c : number4 (bytes4 z.cost) 0 ≡ z.cost = number_back z.cost v in
    read_written true q e w p 3 0 7 (z.task.0 ∷ z.core.0 ∷ kind_byte z.kind ∷ first3 z.cost) (z.cost % 256) (record { whole = omega arith; fits = refl; room = refl; size = refl }) (omega arith) refl ∙ rw (kind_taken z.kind, lt-ltb p.placed 128 l, kind_back z.kind, c)
