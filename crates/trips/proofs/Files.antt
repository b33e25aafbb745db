-- What an accepted file is: it is written again byte for byte, its record is good, and its task fields are the part that the table in force gives.
use mathlib.Core.Path.{◌≡◌, refl, sym, ap, ◌∙◌}
use mathlib.Core.Bool.{Bool, true, false, cond}
use mathlib.Core.List.{List, [], ◌∷◌, ◌++◌, append_assoc, append-nil}
use Prim.Native.Nat.{ℕ, zero, suc, ◌+◌, ◌≤◌, ◌<◌}
use native.Mathlib.Decide.{ℕ_discrete}
use native.Mathlib.Omega.{arith}
use lib.Arith.{le-zero}
use lib.Dec.{ltb, eqb}
use lib.ListN.{length, get_or, take}
use borrow.Author.Tests.{ltb-false, eqb-false, eq-eqb, ne_eqb}
use Rattle.std.specs.Prelude.{Ok}
use Rattle.tasks.specs.Below.{row}
use Rattle.tasks.proofs.Tabulate.{replicate_at}
use Rattle.tasks.specs.Tables.{no_task, checked_table}
use Rattle.tasks.specs.Answers.{Accepted, Refused}
use Rattle.tasks.specs.declared.Table.{Table}
use Rattle.tasks.proofs.Answers.{accepted_not}
use Rattle.plans.specs.Pieces.{no_piece, task_of}
use Rattle.plans.specs.Shape.{checked_plan}
use Rattle.plans.specs.declared.Plan.{Plan}
use Rattle.writing.specs.Fields.{core_field, task_field, tasks_bytes, table_bytes, plan_bytes}
use Rattle.files.specs.Fields.{field_at, refused_field, read}
use Rattle.files.specs.Grammar.{default_cores, empty_plan, refusal, table_of}
use Rattle.files.specs.Reading.{begun, moved_to, ended, fields_answer, ended_after, table_ended, plan_ended, clean_plan}
use Rattle.files.specs.Files.{table_read, plan_read}
use Rattle.files.specs.declared.Default.{Default}
use Rattle.files.specs.declared.Field.{Field}
use Rattle.files.proofs.Clean.{clean_plan_is}
use Rattle.files.proofs.HandMade.{table_passed, plan_passed, table_out, plan_out}
use Rattle.files.proofs.FirstBad.{positive}
use Rattle.trips.proofs.Accepted.{told, Content, Held, read_held, zero_byte}

-- a lent slice: each byte is below 256, and the length fits a machine word
pub record Slice (s : List ℕ) : Type 0 where
  pub small : (i : ℕ) → get_or s i 0 < 256
  pub most : length s ≤ 18446744073709551615

begun_held : (d : Default) (o : Bool) → Held d o [] (field_at o 0 0 false) (empty_plan (default_cores d))
unfolding told row
begun_held d o = record {
  kind = refl;
  bad = refl;
  whole = refl;
  ends = omega arith;
  size = refl;
  small = zero_byte;
  plain = λ q. refl;
  named = false;
  good = λ m. record {
    text = refl;
    default = λ q. refl;
    tasks = refl;
    placed = omega arith;
    pieces = refl;
    clean = record { tasks = λ i l. replicate_at 64 i no_task; pieces = λ j l. replicate_at 128 j no_piece };
    alone = λ q. refl;
    order = λ q. refl;
  };
}

-- the end of the fields
pub record Ended (f : Field) (n : ℕ) : Type 0 where
  pub bad : f.bad ≡ 0
  pub count : f.count ≡ 0
  pub some : 1 ≤ n

ended_says : (f : Field) (n : ℕ) → ended_after f n ≡ Accepted → Ended f n
unfolding ended
ended_says f n h = first (ℕ_discrete f.bad 0)
  where
    third : (b : Bool) → eqb n 0 ≡ b → fields_answer (cond b (refused_field (moved_to f f.end) 6) f) ≡ Accepted → 1 ≤ n
    third true e q = accepted_not q
    third false e q = positive n (eqb-false n 0 e)

    second : (b : Bool) → ltb 0 f.count ≡ b → f.bad ≡ 0 → fields_answer (cond b (refused_field f 1) (cond (eqb n 0) (refused_field (moved_to f f.end) 6) f)) ≡ Accepted → Ended f n
    second true e a q = accepted_not q
    second false e a q = record { bad = a; count = le-zero (ltb-false 0 f.count e); some = third _ refl q }

    first : Dec (f.bad ≡ 0) → Ended f n
    first (yes a) = second _ refl a (rw (eq-eqb f.bad 0 a) at h)
    first (no a) = let k : ended_after f n ≡ Refused (refusal f.bad f.place) = simp (ne_eqb f.bad 0 a) in accepted_not (sym k ∙ h)

-- ---- told again

row_front : (n : ℕ) (f : ℕ → List ℕ) → row (suc n) f ≡ f 0 ++ row n (λ i. f (suc i))
unfolding row
row_front zero f = sym (append-nil (f 0))
row_front (suc n) f = ap (λ (x : List ℕ). x ++ f (suc n)) (row_front n f) ∙ append_assoc (f 0) (row n (λ i. f (suc i))) (f (suc n))

first_byte : (n : ℕ) (f : ℕ → List ℕ) (g : ℕ → List ℕ) (b : ℕ) (ys : List ℕ) → 1 ≤ n → ((i : ℕ) → f i ≡ b ∷ g i) → get_or (row n f ++ ys) 0 0 ≡ b
first_byte zero f g b ys h e = absurd (omega arith)
first_byte (suc n) f g b ys h e = rw (row_front n f, e 0)

told_named : (p : Plan) → get_or (told true p) 0 0 ≡ 1
unfolding told core_field
told_named p = refl

told_other : (p : Plan) → 1 ≤ p.count → get_or (told false p) 0 0 ≡ 2
unfolding told task_field
told_other p h = first_byte p.count (λ i. task_field (task_of p i)) _ 2 _ h (λ i. refl)

told_split : (p : Plan) → told true p ≡ core_field p.cores ++ told false p
unfolding told
told_split p = refl

-- a file that names its core count is told again byte for byte, any other with the default's count before it
told_again : (d : Default) (s : List ℕ) (named : Bool) (p : Plan) → 1 ≤ p.count → s ≡ told named p → (named ≡ false → p.cores ≡ default_cores d) → told true p ≡ cond (eqb (get_or s 0 0) 1) s (core_field (default_cores d) ++ s)
told_again d s true p h e k = rw (e, told_named p)
told_again d s false p h e k = rw (e, told_other p h, told_split p, k refl)

plan_told : (p : Plan) → plan_bytes p ≡ told true p
unfolding plan_bytes tasks_bytes told
plan_told p = simp append_assoc

table_told : (p : Plan) → p.placed ≡ 0 → table_bytes (table_of p) ≡ told true p
unfolding table_bytes tasks_bytes told row
table_told p e = rw e (rw append-nil)

-- ---- a whole file

-- a file that was read without a refusal so far
reading : (d : Default) (o : Bool) (s : List ℕ) → Slice s → (read (begun d o) s).field.bad ≡ 0 → Held d o s (read (begun d o) s).field (read (begun d o) s).plan
reading d o s lent a = read_held d o s [] (field_at o 0 0 false) (empty_plan (default_cores d)) (begun_held d o) (omega arith) lent.small (omega (arith, lent.most)) a

-- the place that is told of a field is where its first byte stands
pub place_is : (d : Default) (o : Bool) (s : List ℕ) → Slice s → (read (begun d o) s).field.bad ≡ 0 → (read (begun d o) s).field.place + (read (begun d o) s).field.count ≡ length s
place_is d o s lent a = (reading d o s lent a).whole

module _ (d : Default) (o : Bool) (s : List ℕ) (lent : Slice s) (e : Ended (read (begun d o) s).field (read (begun d o) s).plan.count) where
  held : Held d o s (read (begun d o) s).field (read (begun d o) s).plan
  held = reading d o s lent e.bad

  module _ (m : (read (begun d o) s).field.misshapen ≡ false) where
    content : Content d o held.named s (read (begun d o) s).field (read (begun d o) s).plan
    content = held.good m

    text : s ≡ told held.named (read (begun d o) s).plan
    text = content.text ∙ ap (λ (k : ℕ). told held.named (read (begun d o) s).plan ++ take k (read (begun d o) s).field.bytes) e.count ∙ append-nil _

    -- and past its counts it is 0
    cleaned : clean_plan (read (begun d o) s).plan ≡ (read (begun d o) s).plan
    cleaned = clean_plan_is (read (begun d o) s).plan content.clean content.tasks content.pieces

    again : told true (read (begun d o) s).plan ≡ cond (eqb (get_or s 0 0) 1) s (core_field (default_cores d) ++ s)
    again = told_again d s held.named (read (begun d o) s).plan e.some text content.default

-- every accepted table file that names its core count is written again byte for byte, any other with the default's count before it
module _ (d : Default) (s : List ℕ) (lent : Slice s) (t : Table) (accepted : table_read d s ≡ Ok t) where
  -- its end was accepted, and what was read is handed out, cleaned
  table_ends : (table_ended (read (begun d false) s).field (read (begun d false) s).plan ≡ Accepted) × (table_of (clean_plan (read (begun d false) s).plan) ≡ t)
  unfolding table_read
  table_ends = table_out (read (begun d false) s) t accepted

  -- its end was accepted
  table_ended_lem : table_ended (read (begun d false) s).field (read (begun d false) s).plan ≡ Accepted
  table_ended_lem = table_ends.0

  -- so its fields are good
  table_fields : Ended (read (begun d false) s).field (read (begun d false) s).plan.count
  table_fields = ended_says _ _ (table_passed _ _ table_ended_lem).0

  -- no piece spoils a table
  table_plain : (read (begun d false) s).field.misshapen ≡ false
  table_plain = (held d false s lent table_fields).plain refl

  -- what was read is handed out
  table_is : t ≡ table_of (read (begun d false) s).plan
  table_is = sym table_ends.1 ∙ ap table_of (cleaned d false s lent table_fields table_plain)

  -- it is written again
  pub table_written_again : table_bytes t ≡ cond (eqb (get_or s 0 0) 1) s (core_field (default_cores d) ++ s)
  table_written_again = ap table_bytes table_is ∙ table_told _ ((content d false s lent table_fields table_plain).alone refl) ∙ again d false s lent table_fields table_plain

  -- and its record is a good table
  pub table_is_good : checked_table t ≡ Accepted
  table_is_good = rw table_is (table_passed _ _ table_ended_lem).1

-- every accepted plan file that names its core count is written again byte for byte, any other with the default's count before it
module _ (d : Default) (s : List ℕ) (lent : Slice s) (p : Plan) (accepted : plan_read d s ≡ Ok p) where
  -- its end was accepted, and what was read is handed out, cleaned
  plan_ends : (plan_ended (read (begun d true) s).field (read (begun d true) s).plan ≡ Accepted) × (clean_plan (read (begun d true) s).plan ≡ p)
  unfolding plan_read
  plan_ends = plan_out (read (begun d true) s) p accepted

  -- its end was accepted
  plan_ended_lem : plan_ended (read (begun d true) s).field (read (begun d true) s).plan ≡ Accepted
  plan_ended_lem = plan_ends.0

  -- so its fields are good
  plan_fields : Ended (read (begun d true) s).field (read (begun d true) s).plan.count
  plan_fields = ended_says _ _ (plan_passed _ _ plan_ended_lem).0

  -- and no piece spoils the shape
  plan_plain : (read (begun d true) s).field.misshapen ≡ false
  plan_plain = (plan_passed _ _ plan_ended_lem).1.0

  -- what was read is handed out
  plan_is : p ≡ (read (begun d true) s).plan
  plan_is = sym plan_ends.1 ∙ cleaned d true s lent plan_fields plan_plain

  -- it is written again
  pub plan_written_again : plan_bytes p ≡ cond (eqb (get_or s 0 0) 1) s (core_field (default_cores d) ++ s)
  plan_written_again = ap plan_bytes plan_is ∙ plan_told _ ∙ again d true s lent plan_fields plan_plain

  -- and its record is a good plan
  pub plan_is_good : checked_plan p ≡ Accepted
  plan_is_good = rw plan_is (plan_passed _ _ plan_ended_lem).1.1
