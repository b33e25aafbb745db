-- Laws of writing: what a part from a place on holds after a field was written at its front, said of the whole buffer.
use mathlib.Core.Path.{◌≡◌, refl, ap, sym, ◌∙◌}
use Rattle.std.specs.Prelude.{Ok, Err}
use mathlib.Core.List.{List, [], ◌++◌, append_assoc, append-nil}
use Prim.Native.Nat.{ℕ, zero, suc, ◌+◌, ◌-◌, ◌*◌, ◌≤◌, ◌<◌}
use native.Mathlib.Nat.{zero-add, add-zero, mul-suc, mul-zero}
use native.Mathlib.Numerals.{add-one}
use native.Mathlib.Omega.{arith}
use lib.ListN.{length, get_or, take, drop, length-append, length-drop, drop_of_length-le, take-append-drop}
use lib.Seq.{take_at, drop_at, drop-drop, take_all, sets, sets-eq, length-take-le}
use borrow.Rule.Slice.PartMut.{put_mid}
use borrow.Author.Tests.{le-leb, lt-leb, leb-true}
use Rattle.tasks.specs.Below.{row}
use Rattle.tasks.proofs.Tables.{GoodTable, accepted_good}
use Rattle.tasks.specs.Tables.{checked_table, task_of as task_of_table}
use Rattle.tasks.specs.Answers.{Answer, Accepted, Refused}
use Rattle.tasks.specs.declared.Refusal.{Refusal}
use Rattle.tasks.specs.declared.Refusal.TheVariants.{BufferShort}
use Rattle.tasks.specs.declared.Table.{Table}
use Rattle.tasks.specs.declared.Task.{Task}
use Rattle.plans.proofs.InShape.{GoodPlan, accepted_plan, tests}
use Rattle.plans.specs.Pieces.{task_of, piece_of}
use Rattle.plans.specs.Shape.{checked_plan}
use Rattle.plans.specs.declared.Plan.{Plan}
use Rattle.tasks.proofs.Below.{row_same}
use Rattle.std.proofs.lemmas.List.{get_or-take}
use denote.Enum.Declared.{tag_of}
use Rattle.plans.specs.contracts.Kind.{the_type as the_kind}
use Rattle.plans.specs.declared.Kind.{Kind}
use Rattle.plans.specs.declared.Kind.TheVariants.{Whole, Share}
use Rattle.writing.specs.Fields.{kind_byte, core_field, task_field, piece_field, tasks_bytes, table_bytes, plan_bytes}
use Rattle.writing.specs.Writing.{after, answered, filled}
use Rattle.writing.specs.Lengths.{task_field_length, piece_field_length}

-- lists that agree from n on agree further on
drop_on : (k n : ℕ) (xs ys : List ℕ) (r : ℕ) → r ≡ n + k → drop n xs ≡ drop n ys → drop r xs ≡ drop r ys
drop_on k n xs ys r q h = rw (q, ← drop-drop k n xs, ← drop-drop k n ys, h)

-- the number of a kind
pub kind_tag : (k : Kind) → tag_of the_kind k ≡ kind_byte k
kind_tag Whole = refl
kind_tag Share = refl

-- one field, written into the part from `at` on
put_part : (xs ys v : List ℕ) (at : ℕ) → at + length v ≤ length xs → ys ≡ sets (take (length xs - at) (drop at xs)) 0 v
    → put_mid at (length xs - at) xs ys ≡ take at xs ++ (v ++ drop (at + length v) xs)
put_part xs ys v at h q =
    let whole : take (length xs - at) (drop at xs) ≡ drop at xs = take_all (length xs - at) (drop at xs) (omega (arith, length-drop at xs)) in
    let rest : drop (length xs - at) (drop at xs) ≡ [] = drop_of_length-le (drop at xs) {i = length xs - at} (omega (arith, length-drop at xs)) in
    let fits : 0 + length v ≤ length (drop at xs) = omega (arith, length-drop at xs) in
    let front : ys ≡ v ++ drop (at + length v) xs = q ∙ rw whole (sets-eq v (drop at xs) 0 fits ∙ rw (zero-add, drop-drop)) in
    rw (rest, front, append-nil)

-- a part of as many bytes as v has, which now holds v
pub part_written : (xs ys v : List ℕ) (at k : ℕ) → ys ≡ v → k ≡ length v → at + k ≤ length xs → put_mid at (at + k - at) xs ys ≡ sets xs at v
part_written xs ys v at k e l h =
    let n : at + k - at ≡ k = omega arith in
    rw (n, e, l, drop-drop) (sym (sets-eq v xs at (omega arith) ∙ append_assoc (take at xs) v _))

pub mul_add_one : (k n : ℕ) → k * (n + 1) ≡ k * n + k
mul_add_one k n = rw (add-one, mul-suc)

pub row_length : (k n : ℕ) (f : ℕ → List ℕ) → ((i : ℕ) → length (f i) ≡ k) → length (row n f) ≡ k * n
unfolding row
row_length k zero f h = sym (mul-zero k)
row_length k (suc n) f h = rw (length-append, mul-suc, row_length k n f h, h n)

-- a row over the first entries of a list
pub row_taken : {A : Type 0} (n : ℕ) (xs : List A) (f : A → List ℕ) (d : A) → n ≤ length xs → row (length (take n xs)) (λ i. f (get_or (take n xs) i d)) ≡ row n (λ i. f (get_or xs i d))
row_taken n xs f d h = rw (length-take-le n xs h) (row_same n (λ i. f (get_or (take n xs) i d)) (λ i. f (get_or xs i d)) (λ i l. ap f (get_or-take n xs i d l)))

-- i fields of k bytes each stand in the buffer e from `start` on, and the next one starts at `at`
pub record Rowed (k : ℕ) (f : ℕ → List ℕ) (start : ℕ) (e xs : List ℕ) (at i : ℕ) : Type 0 where
  pub next : at ≡ start + k * i
  pub bytes : xs ≡ after e start at (row i f)
  pub size : length xs ≡ length e

module _ (k : ℕ) (f : ℕ → List ℕ) (each : (i : ℕ) → length (f i) ≡ k) (start : ℕ) (e : List ℕ) where
  pub row_none : Rowed k f start e e start 0
  unfolding row
  row_none = record { next = rw (mul-zero, add-zero); bytes = rw append-nil (sym (take-append-drop start e)); size = refl }

  -- one field more: it is written into the part that starts where the row ends
  pub row_more : (xs ys v : List ℕ) (at n : ℕ) → Rowed k f start e xs at n → at + k ≤ length e → v ≡ f n
      → ys ≡ sets (take (length xs - at) (drop at xs)) 0 v → Rowed k f start e (put_mid at (length xs - at) xs ys) (at + k) (n + 1)
  unfolding row
  row_more xs ys v at n r h lv p =
      let w : List ℕ = take start e ++ row n f in
      let lr : length (row n f) ≡ k * n = row_length k n f each in
      let lf : length v ≡ k = ap length lv ∙ each n in
      let lw : length w ≡ at = length-append (take start e) (row n f) ∙ rw (length-take-le start e (omega arith)) (omega arith) in
      let front : take at xs ≡ w = ap (take at) r.bytes ∙ take_at w (drop at e) at lw in
      let behind : drop at xs ≡ drop at e = ap (drop at) r.bytes ∙ drop_at w (drop at e) at lw in
      let rest : drop (at + k) xs ≡ drop (at + k) e = drop_on k at xs e (at + k) refl behind in
      let all : put_mid at (length xs - at) xs ys ≡ after e start (at + k) (row (n + 1) f) = put_part xs ys v at (omega arith) p ∙ rw (front, lf, rest, lv, add-one) (simp append_assoc) in
      let lo : length ((take start e ++ row (n + 1) f) ++ drop (at + k) e) ≡ length e = length-append (take start e ++ row (n + 1) f) (drop (at + k) e) ∙ omega (arith, length-append (take start e) (row (n + 1) f), row_length k (n + 1) f each, length-take-le start e (omega arith), length-drop (at + k) e, mul_add_one k n) in
      record { next = omega (arith, r.next, mul_add_one k n); bytes = all; size = ap length all ∙ lo }

-- the core count at the start of a buffer, and the tasks after it
pub tasks_written : (e xs : List ℕ) (m n r k : ℕ) (ts : ℕ → Task) → r ≡ 4 + k → 4 ≤ length e → xs ≡ sets e 0 (core_field m)
    → after xs 4 r (row n (λ i. task_field (ts i))) ≡ tasks_bytes m n ts ++ drop r e
unfolding tasks_bytes core_field
tasks_written e xs m n r k ts q h p =
    let split : xs ≡ core_field m ++ drop 4 e = p ∙ sets-eq (core_field m) e 0 h in
    let front : take 4 xs ≡ core_field m = ap (take 4) split in
    rw (front, drop_on k 4 xs e r q (ap (drop 4) split))

-- the length of a file
pub tasks_length : (m n : ℕ) (ts : ℕ → Task) → length (tasks_bytes m n ts) ≡ 4 + 15 * n
unfolding tasks_bytes core_field
tasks_length m n ts = omega (arith, row_length 15 n (λ i. task_field (ts i)) (λ i. task_field_length (ts i)))

pub table_length : (t : Table) → length (table_bytes t) ≡ 4 + 15 * t.count
unfolding table_bytes
table_length t = tasks_length _ _ _

pub plan_length : (p : Plan) → length (plan_bytes p) ≡ 4 + 15 * p.count + 10 * p.placed
unfolding plan_bytes
plan_length p = length-append (tasks_bytes p.cores p.count (task_of p)) (row p.placed (λ j. piece_field (piece_of p j))) ∙ rw (tasks_length, row_length 10 p.placed (λ j. piece_field (piece_of p j)) (λ j. piece_field_length (piece_of p j)))

-- the three ways in which writing ends
module _ (a : Answer) (file e : List ℕ) where
  pub write_refused : (x : Refusal) → a ≡ Refused x → (Err x ≡ answered a file e) × (e ≡ filled a file e)
  write_refused x h = rw h (refl, refl)

  module _ (good : a ≡ Accepted) (n : ℕ) (size : length file ≡ n) where
    pub write_short : length e < n → (Err (BufferShort n) ≡ answered a file e) × (e ≡ filled a file e)
    write_short h = rw (good, size, lt-leb n (length e) h) (refl, refl)

    pub write_done : (r : ℕ) (xs : List ℕ) → r ≡ n → n ≤ length e → xs ≡ file ++ drop r e → (Ok r ≡ answered a file e) × (xs ≡ filled a file e)
    write_done r xs q h k = rw (good, size, le-leb n (length e) h, k, q) (refl, refl)

-- the pieces after the tasks
pub plan_written_lem : (p : Plan) (e xs : List ℕ) (start r k : ℕ) → r ≡ start + k → start ≡ 4 + 15 * p.count
    → xs ≡ tasks_bytes p.cores p.count (task_of p) ++ drop start e
    → after xs start r (row p.placed (λ j. piece_field (piece_of p j))) ≡ plan_bytes p ++ drop r e
unfolding plan_bytes
plan_written_lem p e xs start r k q u h =
    let w : List ℕ = tasks_bytes p.cores p.count (task_of p) in
    let lw : length w ≡ start = tasks_length _ _ _ ∙ sym u in
    let front : take start xs ≡ w = ap (take start) h ∙ take_at w (drop start e) start lw in
    let behind : drop start xs ≡ drop start e = ap (drop start) h ∙ drop_at w (drop start e) start lw in
    rw (front, drop_on k start xs e r q behind)

-- what an accepted record's counts are at most
pub table_small : (t : Table) (a : Answer) → a ≡ checked_table t → a ≡ Accepted → (t.cores ≤ 16) × (t.count ≤ 64)
table_small t a h e = let g : GoodTable t.cores t.count (task_of_table t) = accepted_good _ _ _ (sym h ∙ e) in (g.cores.1, g.tasks.1)

pub plan_small : (p : Plan) (a : Answer) → a ≡ checked_plan p → a ≡ Accepted → (p.cores ≤ 16) × (p.count ≤ 64) × (p.placed ≤ 128)
plan_small p a h e = let g : GoodPlan p = accepted_plan p (sym h ∙ e) in (g.table.cores.1, g.table.tasks.1, leb-true _ _ (tests _ _ _ _ _ g.shaped).1)
