-- The table in force: its part is exactly the task fields of the slice in force, so it is empty only where both slices are bad; which slice that is does not hang on the default, and its core count is the one that it names, otherwise the default.
use mathlib.Core.Path.{◌≡◌, refl, sym, ap, ◌∙◌}
use mathlib.Core.Bool.{Bool, true, false, cond}
use mathlib.Core.List.{List, [], ◌++◌}
use Prim.Native.Nat.{ℕ, ◌-◌, ◌≤◌}
use native.Mathlib.Omega.{arith}
use lib.Dec.{leb, eqb}
use lib.ListN.{length, get_or, drop, length-drop}
use lib.Seq.{take_all}
use borrow.Author.Tests.{le-leb}
use denote.Ref.{Bor}
use Rattle.std.specs.Prelude.{Result, Ok, Err}
use Rattle.tasks.specs.Below.{row}
use Rattle.tasks.proofs.Bools.{not_second}
use Rattle.tasks.proofs.Tables.{accepted_good}
use Rattle.tasks.specs.Tables.{task_of}
use Rattle.tasks.specs.declared.Refusal.{Refusal}
use Rattle.tasks.specs.declared.Table.{Table}
use Rattle.writing.specs.Fields.{core_field, task_field, tasks_bytes, table_bytes}
use Rattle.force.specs.InForce.{first_task, TaskFields, IsInForce, choice, in_force, cores_in_force}
use Rattle.files.specs.Grammar.{answer_of, default_cores}
use Rattle.files.specs.Files.{table_read}
use Rattle.files.specs.declared.Default.{Default}
use Rattle.files.proofs.Cores.{table_cores}
use Rattle.files.proofs.Defaults.{answered_alike}
use Rattle.trips.proofs.Files.{Slice, table_written_again, table_is_good}
use Rattle.writing.specs.Lengths.{task_field_length}
use Rattle.writing.proofs.Writing.{row_length}

-- the task fields of a table
abbrev pub fields_of : Table → List ℕ
fields_of t = row t.count (λ i. task_field (task_of t i))

table_splits : (t : Table) → table_bytes t ≡ core_field t.cores ++ fields_of t
unfolding table_bytes tasks_bytes
table_splits t = refl

-- a file with a core count before its tasks
behind_cores : (m : ℕ) (xs s : List ℕ) → s ≡ core_field m ++ xs → (4 ≤ length s) × ((get_or s 0 0 ≡ 1) × (drop 4 s ≡ xs))
unfolding core_field
behind_cores m xs s h = rw h (omega arith, (refl, refl))

module _ (d : Default) (s : List ℕ) (lent : Slice s) (t : Table) (accepted : table_read d s ≡ Ok t) where
  -- the part of a good table file from its first task on is its task fields
  pub tasks_part : drop (first_task s) s ≡ fields_of t
  tasks_part = go _ refl
    where
      go : (b : Bool) → eqb (get_or s 0 0) 1 ≡ b → drop (first_task s) s ≡ fields_of t
      go true e =
          let same : s ≡ core_field t.cores ++ fields_of t = sym (sym (table_splits t) ∙ table_written_again d s lent t accepted ∙ rw e) in
          let b : (4 ≤ length s) × ((get_or s 0 0 ≡ 1) × (drop 4 s ≡ fields_of t)) = behind_cores _ _ s same in
          rw (le-leb 4 (length s) b.0, e) b.1.1
      go false e =
          let same : core_field (default_cores d) ++ s ≡ core_field t.cores ++ fields_of t = sym (sym (table_splits t) ∙ table_written_again d s lent t accepted ∙ rw e) in
          rw (not_second (leb 4 (length s)) e) (sym (behind_cores (default_cores d) s _ refl).1.1 ∙ ap (drop 4) same ∙ (behind_cores _ _ _ refl).1.1)

  -- and it is not empty
  pub tasks_some : 15 ≤ length (fields_of t)
  tasks_some =
      let n : (1 ≤ t.count) × (t.count ≤ 64) = (accepted_good _ _ _ (table_is_good d s lent t accepted)).tasks in
      omega (arith, row_length 15 t.count (λ i. task_field (task_of t i)) (λ i. task_field_length (task_of t i)))

-- the part that is said to hold a good slice's task fields holds them, and is not empty
pub part_holds : (d : Default) (r s : Bor (List ℕ)) → Slice s.now → (t : Table) → table_read d s.now ≡ Ok t → TaskFields r s → (r.now ≡ fields_of t) × (15 ≤ length r.now)
part_holds d r s lent t a h =
    let whole : r.now ≡ drop (first_task s.now) s.now = h.bytes ∙ take_all (length s.now - first_task s.now) (drop (first_task s.now) s.now) (omega (arith, length-drop (first_task s.now) s.now)) in
    let held : r.now ≡ fields_of t = whole ∙ tasks_part d s.now lent t a in
    (held, omega (arith, ap length held, tasks_some d s.now lent t a))

-- the table in force is empty exactly where both slices are bad
pub record Both (d : Default) (own shipped : List ℕ) : Type 0 where
  pub first : Refusal
  pub second : Refusal
  pub own_bad : table_read d own ≡ Err first
  pub shipped_bad : table_read d shipped ≡ Err second

pub empty_if : (d : Default) (r own shipped : Bor (List ℕ)) → Both d own.now shipped.now → IsInForce (in_force d own.now shipped.now) r own shipped → r.now ≡ []
unfolding in_force
empty_if d r own shipped b h = (rw (b.own_bad, b.shipped_bad) at h).bytes

pub empty_only_if : (d : Default) (r own shipped : Bor (List ℕ)) → Slice own.now → Slice shipped.now → IsInForce (in_force d own.now shipped.now) r own shipped → r.now ≡ [] → Both d own.now shipped.now
unfolding in_force
empty_only_if d r own shipped x y h e = go _ _ refl refl h
  where
    go : (a b : Result Table Refusal) → table_read d own.now ≡ a → table_read d shipped.now ≡ b → IsInForce (choice (answer_of (table_read d own.now)) (answer_of (table_read d shipped.now))) r own shipped → Both d own.now shipped.now
    go (Ok t) b q k j = absurd (omega (arith, ap length e, (part_holds d r own x t q (rw q at j)).1))
    go (Err u) (Ok t) q k j = absurd (omega (arith, ap length e, (part_holds d r shipped y t k (rw (q, k) at j)).1))
    go (Err u) (Err v) q k j = record { first = u; second = v; own_bad = q; shipped_bad = k }

-- ---- the default

-- which slice is in force does not hang on the default
pub in_force_alike : (c d : Default) (own shipped : List ℕ) → Slice own → Slice shipped → in_force c own shipped ≡ in_force d own shipped
unfolding in_force
in_force_alike c d own shipped x y = rw (answered_alike c d own x.most, answered_alike c d shipped y.most)

-- the core count that a file names, otherwise the default's
abbrev pub count_of : Default → List ℕ → ℕ
count_of d s = cond (eqb (get_or s 0 0) 1) (get_or s 3 0) (default_cores d)

module _ (d : Default) (own shipped : List ℕ) where
  -- the core count told is that of the machine's own table if it is good
  pub own_count : Slice own → (t : Table) → table_read d own ≡ Ok t → cores_in_force d own shipped ≡ Ok (count_of d own)
  unfolding cores_in_force
  own_count lent t a = rw a (ap Ok (table_cores d own lent.most t a))

  -- otherwise that of the shipped one if that is good
  pub shipped_count : Slice shipped → (x : Refusal) → table_read d own ≡ Err x → (t : Table) → table_read d shipped ≡ Ok t → cores_in_force d own shipped ≡ Ok (count_of d shipped)
  unfolding cores_in_force
  shipped_count lent x a t b = rw (a, b) (ap Ok (table_cores d shipped lent.most t b))

  -- otherwise the refusal of the shipped one is told
  pub no_count : (b : Both d own shipped) → cores_in_force d own shipped ≡ Err b.second
  unfolding cores_in_force
  no_count b = rw (b.own_bad, b.shipped_bad)
