-- What has been read of a file is, byte for byte, what the writer would write of it.
use mathlib.Core.Path.{◌≡◌, refl, sym, ap, ◌∙◌}
use mathlib.Core.Bool.{Bool, true, false, cond}
use mathlib.Core.List.{List, [], ◌∷◌, ◌++◌, append_assoc, append-nil}
use mathlib.Core.Logic.{◌⊎◌, inl, inr}
use Prim.Native.Nat.{ℕ, suc, ◌+◌, ◌≤◌, ◌<◌}
use native.Mathlib.Decide.{ℕ_discrete, dec_lt}
use native.Mathlib.Numerals.{add-one}
use native.Mathlib.Omega.{arith}
use lib.Dec.{eqb}
use lib.ListN.{length, get_or, set, take, replicate, length-append, length-set}
use lib.Seq.{length-take-le, take-suc-set, get_or-set_same, get_or-set_other}
use borrow.Author.Tests.{eq-eqb}
use Rattle.std.proofs.lemmas.List.{nil_from_length}
use Rattle.tasks.specs.Below.{row}
use Rattle.tasks.proofs.Below.{row_same}
use Rattle.tasks.proofs.Tabulate.{replicate_at}
use Rattle.tasks.proofs.Bools.{clash}
use Rattle.tasks.specs.Tables.{no_task}
use Rattle.tasks.specs.declared.Task.{Task}
use Rattle.plans.specs.Pieces.{no_piece, task_of, piece_of, CleanPlan}
use Rattle.plans.specs.declared.Piece.{Piece}
use Rattle.plans.specs.declared.Plan.{Plan}
use Rattle.writing.specs.Fields.{core_field, task_field, piece_field}
use Rattle.tasks.specs.Places.{further}
use Rattle.tasks.proofs.Places.{further_is}
use Rattle.files.specs.Grammar.{length_for, default_cores}
use Rattle.files.specs.Fields.{tag, task_in, piece_in, verdict, hold, field_at, piece_taken, next_field, with_cores, with_task, with_piece, added, settled, step, read}
use Rattle.files.specs.declared.Default.{Default}
use Rattle.files.specs.declared.Field.{Field}
use Rattle.files.specs.declared.Reader.{Reader}
use Rattle.files.proofs.Fields.{reader, length_most, next_other, cores_added, task_added, read_refused, hold_is, step_good, settled_bad, good_room}
use Rattle.files.proofs.Found.{Found, good_found, tag_cases}
use Rattle.trips.proofs.Taken.{piece_room, piece_kind, waits_short, core_text, task_text, piece_text_lem}

-- the fields of what was read: the core count if it was named, the tasks, the pieces
unfoldable pub told : Bool → Plan → List ℕ
told named p = cond named (core_field p.cores) [] ++ (row p.count (λ i. task_field (task_of p i)) ++ row p.placed (λ j. piece_field (piece_of p j)))

-- what was read of a file s, its next field being f, if no piece is against the shape by itself
pub record Content (d : Default) (o named : Bool) (s : List ℕ) (f : Field) (p : Plan) : Type 0 where
  pub text : s ≡ told named p ++ take f.count f.bytes
  pub default : named ≡ false → p.cores ≡ default_cores d
  pub tasks : length p.tasks ≡ 64
  pub placed : p.placed ≤ 128
  pub pieces : length p.pieces ≡ 128
  pub clean : CleanPlan p
  pub alone : o ≡ false → p.placed ≡ 0
  pub order : f.place ≤ f.end → p.placed ≡ 0

-- a file s was read without a refusal, and its next field is f
pub record Held (d : Default) (o : Bool) (s : List ℕ) (f : Field) (p : Plan) : Type 0 where
  pub kind : f.pieces ≡ o
  pub bad : f.bad ≡ 0
  pub whole : f.place + f.count ≡ length s
  pub ends : f.end ≤ f.place
  pub size : length f.bytes ≡ 15
  pub small : (i : ℕ) → get_or f.bytes i 0 < 256
  pub plain : o ≡ false → f.misshapen ≡ false
  pub named : Bool
  pub good : f.misshapen ≡ false → Content d o named s f p

-- one byte more of the field
hold_held : (d : Default) (o : Bool) (s : List ℕ) (f : Field) (p : Plan) (b : ℕ) → Held d o s f p → f.count < 15 → b < 256 → Held d o (s ++ (b ∷ [])) (hold f b) p
hold_held d o s f p b h l k = rw (hold_is f b l) (record {
  kind = h.kind;
  bad = h.bad;
  whole = omega (arith, h.whole, length-append s (b ∷ []));
  ends = h.ends;
  size = length-set f.bytes f.count b ∙ h.size;
  small = λ i. byte i (ℕ_discrete i f.count);
  plain = h.plain;
  named = h.named;
  good = λ m. let c : Content d o h.named s f p = h.good m in record {
    text = ap (λ (x : List ℕ). x ++ (b ∷ [])) c.text ∙ append_assoc (told h.named p) (take f.count f.bytes) (b ∷ []) ∙ ap (λ (x : List ℕ). told h.named p ++ x) (sym (rw add-one (take-suc-set f.bytes f.count b (omega (arith, h.size)))));
    default = c.default;
    tasks = c.tasks;
    placed = c.placed;
    pieces = c.pieces;
    clean = c.clean;
    alone = c.alone;
    order = c.order;
  };
})
  where
    byte : (i : ℕ) → Dec (i ≡ f.count) → get_or (set f.bytes f.count b) i 0 < 256
    byte i (yes e) = rw (e, get_or-set_same f.bytes f.count b 0 (omega (arith, h.size))) k
    byte i (no e) = rw (get_or-set_other f.bytes f.count i b 0 e) (h.small i)

-- ---- a good field is taken

-- one entry more is one field more
row_set : {A : Type 0} (F : A → List ℕ) (xs : List A) (n : ℕ) (x d : A) → n < length xs → row (n + 1) (λ i. F (get_or (set xs n x) i d)) ≡ row n (λ i. F (get_or xs i d)) ++ F x
unfolding row
row_set F xs n x d h = rw (add-one, row, row_same n (λ i. F (get_or (set xs n x) i d)) (λ i. F (get_or xs i d)) (λ i l. ap F (get_or-set_other xs n i x d (λ e. omega arith))), get_or-set_same xs n x d h)

nil_right : (xs ys : List ℕ) → xs ++ ys ≡ [] → ys ≡ []
nil_right xs ys h = nil_from_length ys (omega (arith, ap length h, length-append xs ys))

told_cores : (named : Bool) (p : Plan) (m : ℕ) → told named p ≡ [] → told true (with_cores p m) ≡ core_field m
unfolding told
told_cores named p m h = rw (nil_right (cond named (core_field p.cores) []) _ h) (append-nil (core_field m))

told_task : (named : Bool) (p : Plan) (t : Task) → p.placed ≡ 0 → p.count < length p.tasks → told named (with_task p t) ≡ told named p ++ task_field t
unfolding told row
told_task named p t e h = rw (row_set task_field p.tasks p.count t no_task h, e) (simp (append_assoc, append-nil))

told_piece : (named : Bool) (p : Plan) (z : Piece) → p.placed < length p.pieces → told named (with_piece p z) ≡ told named p ++ piece_field z
unfolding told
told_piece named p z h = rw (row_set piece_field p.pieces p.placed z no_piece h) (simp append_assoc)

pub zero_byte : (i : ℕ) → get_or (replicate 15 0) i 0 < 256
zero_byte i = rw (replicate_at {A = ℕ} 15 i 0) (omega arith)

module _ (d : Default) (o : Bool) (s : List ℕ) (g : Field) (p : Plan) (h : Held d o s g p) (found : Found g) (e : g.count ≡ 3 + length_for (tag g)) (most : length s ≤ 18446744073709551615) where
  next_place : further g.place g.count ≡ length s
  next_place = further_is _ _ (omega (arith, h.whole)) ∙ h.whole

  -- the next field stands where what was read ends
  next_held : (end : ℕ) (w named : Bool) (q : Plan) → end ≤ length s → (o ≡ false → w ≡ false) → (w ≡ false → Content d o named s (field_at g.pieces (length s) end w) q) → Held d o s (field_at g.pieces (length s) end w) q
  next_held end w named q l m c = record { kind = h.kind; bad = refl; whole = omega arith; ends = l; size = refl; small = zero_byte; plain = m; named = named; good = c }

  taken_cores : tag g ≡ 1 → g.place ≡ 0 → Held d o s (field_at g.pieces (length s) (length s) g.misshapen) (with_cores p (get_or g.bytes 3 0))
  taken_cores t z = next_held (length s) g.misshapen true _ (omega arith) h.plain content
    where
      content : g.misshapen ≡ false → Content d o true s (field_at g.pieces (length s) (length s) g.misshapen) (with_cores p (get_or g.bytes 3 0))
      content m =
          let c : Content d o h.named s g p = h.good m in
          let four : g.count ≡ 4 = e ∙ ap (λ (n : ℕ). 3 + length_for n) t in
          let field : take g.count g.bytes ≡ core_field (get_or g.bytes 3 0) = ap (λ (k : ℕ). take k g.bytes) four ∙ core_text g h.size h.small t found.size in
          let empty : told h.named p ≡ [] = nil_from_length _ (omega (arith, h.whole, h.size, ap length c.text, length-append (told h.named p) (take g.count g.bytes), length-take-le g.count g.bytes (omega (arith, h.size)))) in
          record {
            text = c.text ∙ rw (empty, field) (sym (append-nil _ ∙ told_cores h.named p (get_or g.bytes 3 0) empty));
            default = λ q. clash refl q;
            tasks = c.tasks;
            placed = c.placed;
            pieces = c.pieces;
            clean = record { tasks = c.clean.tasks; pieces = c.clean.pieces };
            alone = c.alone;
            order = λ l. c.order (omega arith);
          }

  taken_task : tag g ≡ 2 → g.place ≤ g.end → p.count < 64 → Held d o s (field_at g.pieces (length s) (length s) g.misshapen) (with_task p (task_in g))
  taken_task t z room = next_held (length s) g.misshapen h.named _ (omega arith) h.plain content
    where
      content : g.misshapen ≡ false → Content d o h.named s (field_at g.pieces (length s) (length s) g.misshapen) (with_task p (task_in g))
      content m =
          let c : Content d o h.named s g p = h.good m in
          let whole : g.count ≡ 15 = e ∙ ap (λ (n : ℕ). 3 + length_for n) t in
          let field : take g.count g.bytes ≡ task_field (task_in g) = ap (λ (k : ℕ). take k g.bytes) whole ∙ task_text g h.size h.small t found.size in
          record {
            text = c.text ∙ rw field (sym (append-nil _ ∙ told_task h.named p (task_in g) (c.order z) (omega (arith, c.tasks))));
            default = c.default;
            tasks = length-set p.tasks p.count (task_in g) ∙ c.tasks;
            placed = c.placed;
            pieces = c.pieces;
            clean = record { tasks = λ i l. get_or-set_other p.tasks p.count i (task_in g) no_task (λ q. omega arith) ∙ c.clean.tasks i (omega arith); pieces = c.clean.pieces };
            alone = c.alone;
            order = λ l. c.order z;
          }

  taken_piece : tag g ≡ 3 → g.pieces ≡ true → piece_taken g p.placed ≡ true → Held d o s (field_at g.pieces (length s) g.end g.misshapen) (with_piece p (piece_in g))
  taken_piece t z k = next_held g.end g.misshapen h.named _ (omega (arith, h.ends, h.whole)) h.plain content
    where
      content : g.misshapen ≡ false → Content d o h.named s (field_at g.pieces (length s) g.end g.misshapen) (with_piece p (piece_in g))
      content m =
          let c : Content d o h.named s g p = h.good m in
          let room : p.placed < 128 = piece_room g p.placed k in
          let whole : g.count ≡ 10 = e ∙ ap (λ (n : ℕ). 3 + length_for n) t in
          let field : take g.count g.bytes ≡ piece_field (piece_in g) = ap (λ (i : ℕ). take i g.bytes) whole ∙ piece_text_lem g h.size h.small t found.size (piece_kind g p.placed k) in
          record {
            text = c.text ∙ rw field (sym (append-nil _ ∙ told_piece h.named p (piece_in g) (omega (arith, c.pieces))));
            default = c.default;
            tasks = c.tasks;
            placed = omega arith;
            pieces = length-set p.pieces p.placed (piece_in g) ∙ c.pieces;
            clean = record { tasks = c.clean.tasks; pieces = λ j l. get_or-set_other p.pieces p.placed j (piece_in g) no_piece (λ q. omega arith) ∙ c.clean.pieces j (omega arith) };
            alone = λ q. clash z (h.kind ∙ q);
            order = λ l. absurd (omega (arith, h.ends, h.whole));
          }

  plain_next : (n : ℕ) → (tag g ≡ 3 → ⊥) → next_field g n ≡ field_at g.pieces (length s) (length s) g.misshapen
  plain_next n q = sym (next_other g n (length s) (sym next_place) q)

  piece_next : (n : ℕ) (b : Bool) → tag g ≡ 3 → piece_taken g n ≡ b → next_field g n ≡ field_at g.pieces (length s) g.end (cond b g.misshapen true)
  unfolding next_field
  piece_next n b q k = rw (eq-eqb (tag g) 3 q, next_place, k)

  piece_added : (b : Bool) → tag g ≡ 3 → piece_taken g p.placed ≡ b → added g p ≡ cond b (with_piece p (piece_in g)) p
  unfolding added
  piece_added b q k = rw (eq-eqb (tag g) 3 q, k)

  taken_held : (tag g ≡ 2 → p.count < 64) → Held d o s (next_field g p.placed) (added g p)
  taken_held room = go (tag_cases g found.fits)
    where
      of_piece : tag g ≡ 3 → g.pieces ≡ true → (b : Bool) → piece_taken g p.placed ≡ b → Held d o s (field_at g.pieces (length s) g.end (cond b g.misshapen true)) (cond b (with_piece p (piece_in g)) p)
      of_piece t z true k = taken_piece t z k
      of_piece t z false k = next_held g.end true h.named p (omega (arith, h.ends, h.whole)) (λ q. clash z (h.kind ∙ q)) (λ q. clash refl q)

      go : ((tag g ≡ 1) × (g.place ≡ 0)) ⊎ (((tag g ≡ 2) × (g.place ≤ g.end)) ⊎ ((tag g ≡ 3) × (g.pieces ≡ true))) → Held d o s (next_field g p.placed) (added g p)
      go (inl t) = rw (plain_next p.placed (λ q. omega arith), ← cores_added g p (λ q. omega arith) t.0) (taken_cores t.0 t.1)
      go (inr (inl t)) = rw (plain_next p.placed (λ q. omega arith), ← task_added g p (λ q. omega arith) (λ q. omega arith)) (taken_task t.0 t.1 (room t.0))
      go (inr (inr t)) = rw (piece_next p.placed _ t.0 refl, piece_added _ t.0 refl) (of_piece t.0 t.1 _ refl)

-- ---- a whole file

-- a byte more does not go past the field's end
hold_short : (f : Field) (b : ℕ) → f.count < 3 + length_for (tag f) → (hold f b).count ≤ 3 + length_for (tag (hold f b))
hold_short f b h = rw (hold_is f b (omega (arith, length_most (tag f)))) (go (dec_lt f.count 3))
  where
    go : Dec (f.count < 3) → f.count + 1 ≤ 3 + length_for (get_or (set f.bytes f.count b) 0 0)
    go (yes l) = omega arith
    go (no l) = rw (get_or-set_other f.bytes f.count 0 b 0 (λ e. omega arith)) (omega arith)

next_count : (f : Field) (n : ℕ) → (next_field f n).count ≡ 0
unfolding next_field
next_count f n = go (eqb (tag f) 3)
  where
    go : (b : Bool) → (cond b (field_at f.pieces (further f.place f.count) f.end (cond (piece_taken f n) f.misshapen true)) (field_at f.pieces (further f.place f.count) (further f.place f.count) f.misshapen)).count ≡ 0
    go true = refl
    go false = refl

-- one byte that is read without a refusal
step_held : (d : Default) (o : Bool) (s : List ℕ) (f : Field) (p : Plan) (b : ℕ) → Held d o s f p → f.count < 3 + length_for (tag f) → b < 256 → length s + 1 ≤ 18446744073709551615
    → (step (reader f p) b).field.bad ≡ 0 → Held d o (s ++ (b ∷ [])) (step (reader f p) b).field (step (reader f p) b).plan × ((step (reader f p) b).field.count < 3 + length_for (tag (step (reader f p) b).field))
step_held d o s f p b h l small most a = rw (step_good f p b h.bad) (go (ℕ_discrete (verdict (hold f b) p.count) 0) (ℕ_discrete (verdict (hold f b) p.count) 1) (rw (step_good f p b h.bad) at a))
  where
    held : Held d o (s ++ (b ∷ [])) (hold f b) p
    held = hold_held d o s f p b h (omega (arith, length_most (tag f))) small

    go : Dec (verdict (hold f b) p.count ≡ 0) → Dec (verdict (hold f b) p.count ≡ 1) → (settled (verdict (hold f b) p.count) (hold f b) p).field.bad ≡ 0
        → Held d o (s ++ (b ∷ [])) (settled (verdict (hold f b) p.count) (hold f b) p).field (settled (verdict (hold f b) p.count) (hold f b) p).plan
        × ((settled (verdict (hold f b) p.count) (hold f b) p).field.count < 3 + length_for (tag (settled (verdict (hold f b) p.count) (hold f b) p).field))
    go (yes e) w q =
        let found : Found (hold f b) = good_found (hold f b) p.count e in
        let whole : (hold f b).count ≡ 3 + length_for (tag (hold f b)) = omega (arith, hold_short f b l, found.whole) in
        rw e (taken_held d o (s ++ (b ∷ [])) (hold f b) p held found whole (omega (arith, length-append s (b ∷ []))) (λ t. good_room (hold f b) p.count e (λ r. omega arith) (λ r. omega arith)), omega (arith, next_count (hold f b) p.placed))
    go (no z) (yes e) q = rw e (held, waits_short (hold f b) p.count e)
    go (no z) (no w) q = absurd (z (sym (ap (λ (r : Reader). r.field.bad) (settled_bad (verdict (hold f b) p.count) (hold f b) p z w)) ∙ q))

-- a file that is read without a refusal
pub read_held : (d : Default) (o : Bool) (bs s : List ℕ) (f : Field) (p : Plan) → Held d o s f p → f.count < 3 + length_for (tag f) → ((i : ℕ) → get_or bs i 0 < 256) → length s + length bs ≤ 18446744073709551615
    → (read (reader f p) bs).field.bad ≡ 0 → Held d o (s ++ bs) (read (reader f p) bs).field (read (reader f p) bs).plan
unfolding read
read_held d o [] s f p h l small most a = rw append-nil h
read_held d o (b ∷ bs) s f p h l small most a = go (ℕ_discrete (step (reader f p) b).field.bad 0) (read_held d o bs (s ++ (b ∷ [])))
  where
    go : Dec ((step (reader f p) b).field.bad ≡ 0)
        → ((g : Field) (q : Plan) → Held d o (s ++ (b ∷ [])) g q → g.count < 3 + length_for (tag g) → ((i : ℕ) → get_or bs i 0 < 256) → length (s ++ (b ∷ [])) + length bs ≤ 18446744073709551615
        → (read (reader g q) bs).field.bad ≡ 0 → Held d o ((s ++ (b ∷ [])) ++ bs) (read (reader g q) bs).field (read (reader g q) bs).plan)
        → Held d o (s ++ (b ∷ bs)) (read (step (reader f p) b) bs).field (read (step (reader f p) b) bs).plan
    go (no e) ih = absurd (e (sym (ap (λ (r : Reader). r.field.bad) (read_refused (step (reader f p) b).field (step (reader f p) b).plan bs e)) ∙ a))
    go (yes e) ih =
        let n : Held d o (s ++ (b ∷ [])) (step (reader f p) b).field (step (reader f p) b).plan × ((step (reader f p) b).field.count < 3 + length_for (tag (step (reader f p) b).field)) = step_held d o s f p b h l (small 0) (omega arith) e in
        rw append_assoc at (ih (step (reader f p) b).field (step (reader f p) b).plan n.0 n.1 (λ i. small (suc i)) (omega (arith, length-append s (b ∷ []))) a)
