-- What is written of a good record reads back to the same record.
use mathlib.Core.Path.{◌≡◌, refl, sym, ap, ◌∙◌}
use mathlib.Core.Bool.{Bool, true, false}
use mathlib.Core.List.{List}
use Prim.Native.Nat.{ℕ, zero, suc, ◌+◌, ◌*◌, ◌≤◌, ◌<◌}
use native.Mathlib.Numerals.{add-one}
use native.Mathlib.Omega.{arith}
use lib.ListN.{length}
use borrow.Author.Tests.{leb-true, ne_eqb}
use Rattle.std.specs.Prelude.{Ok}
use Rattle.tasks.proofs.Padded.{padded_in, padded_is, padded_more}
use Rattle.tasks.proofs.Tables.{GoodTable, accepted_good, good_accepted, values_fit_lem, counts_fit}
use Rattle.tasks.specs.Below.{padded, tabulate, row}
use Rattle.tasks.specs.Tables.{no_task, cores_fit, values_fit, checked_tasks, checked_table, SameTable, CleanTable, task_of as task_of_table}
use Rattle.tasks.specs.Answers.{Accepted}
use Rattle.tasks.specs.declared.Task.{Task}
use Rattle.tasks.specs.declared.Table.{Table}
use Rattle.plans.specs.Pieces.{no_piece, task_of, piece_of}
use Rattle.plans.proofs.SamePlans.{shape_same}
use Rattle.plans.proofs.InShape.{GoodPlan, accepted_plan, tests, plan_accepted}
use Rattle.plans.specs.Shape.{checked_plan}
use Rattle.plans.specs.declared.Piece.{Piece}
use Rattle.plans.specs.declared.Plan.{Plan}
use Rattle.writing.specs.Fields.{core_field, task_field, piece_field, tasks_bytes, table_bytes, plan_bytes}
use Rattle.tasks.specs.Places.{further}
use Rattle.tasks.proofs.Places.{further_is}
use Rattle.files.specs.Grammar.{empty_plan}
use Rattle.files.specs.Fields.{field_at, read}
use Rattle.files.specs.Reading.{begun, ended, table_ended, table_closed, plan_ended, clean_plan, plan_closed}
use Rattle.files.proofs.Clean.{padded_again}
use Rattle.files.specs.Files.{table_read, plan_read}
use Rattle.files.specs.declared.Default.{Default}
use Rattle.files.specs.declared.Field.{Field}
use Rattle.files.specs.declared.Reader.{Reader}
use Rattle.trips.proofs.Good.{tasks_same, costs_fit}
use Rattle.trips.proofs.ReadBack.{read_cores, read_task, read_piece}
use Rattle.files.proofs.Fields.{reader}
use Rattle.trips.proofs.InParts.{read_parts}

-- the record with these entries, and 0 past its counts
abbrev pub plan_of : ℕ → ℕ → (ℕ → Task) → ℕ → (ℕ → Piece) → Plan
plan_of m n ts k pc = record { cores = m; count = n; tasks = padded 64 n no_task ts; placed = k; pieces = padded 128 k no_piece pc }

-- a row read field by field
read_row : (r : Reader) (n : ℕ) (f : ℕ → List ℕ) → read r (row (suc n) f) ≡ read (read r (row n f)) (f n)
unfolding row
read_row r n f = sym (read_parts r (row n f) (f n))

read_none : (r : Reader) (f : ℕ → List ℕ) → read r (row 0 f) ≡ r
unfolding read row
read_none r f = refl

module _ (d : Default) (o : Bool) (m : ℕ) (ts : ℕ → Task) (pc : ℕ → Piece) where
  abbrev after : ℕ → Reader
  after n = reader (field_at o (4 + 15 * n) (4 + 15 * n) false) (plan_of m n ts 0 pc)

  begun_is : read (begun d o) (core_field m) ≡ reader (field_at o 4 4 false) (empty_plan m) → read (begun d o) (core_field m) ≡ after 0
  unfolding padded tabulate
  begun_is h = h

  one_more : (n : ℕ) → n < 64 → values_fit (ts n) ≡ true → read (after n) (task_field (ts n)) ≡ after (suc n)
  one_more n l v =
      let e : further (4 + 15 * n) 15 ≡ 4 + 15 * suc n = further_is _ _ (omega arith) ∙ omega arith in
      read_task o (4 + 15 * n) false (plan_of m n ts 0 pc) (ts n) l v ∙ rw (e, padded_more 64 no_task n ts l, add-one)

  pub read_tasks : cores_fit m ≡ true → (n : ℕ) → n ≤ 64 → ((i : ℕ) → i < n → values_fit (ts i) ≡ true) → read (read (begun d o) (core_field m)) (row n (λ i. task_field (ts i))) ≡ after n
  read_tasks h zero l v = read_none _ (λ i. task_field (ts i)) ∙ begun_is (read_cores d o m h)
  read_tasks h (suc n) l v = read_row _ n (λ i. task_field (ts i)) ∙ ap (λ (r : Reader). read r (task_field (ts n))) (read_tasks h n (omega arith) (λ i k. v i (omega arith))) ∙ one_more n l (v n (omega arith))

  pub tasks_read : (n : ℕ) → GoodTable m n ts → read (begun d o) (tasks_bytes m n ts) ≡ after n
  unfolding tasks_bytes
  tasks_read n g = sym (read_parts (begun d o) (core_field m) (row n (λ i. task_field (ts i)))) ∙ read_tasks (counts_fit m 16 g.cores) n g.tasks.1 (λ i l. values_fit_lem (ts i) (g.values i l))

-- ---- tables

-- the same table with 0 past its count
abbrev pub clean_table : Table → Table
clean_table t = record { cores = t.cores; count = t.count; tasks = padded 64 t.count no_task (task_of_table t) }

-- a table's reader behind a good table hands it out
table_closes : (q m n : ℕ) (ts : ℕ → Task) (pc : ℕ → Piece) → GoodTable m n ts → table_closed (reader (field_at false q q false) (plan_of m n ts 0 pc)) ≡ Ok (record { cores = m; count = n; tasks = padded 64 n no_task ts })
unfolding table_closed table_ended ended
table_closes q m n ts pc g =
    let checked : checked_tasks m n (task_of (plan_of m n ts 0 pc)) ≡ Accepted = good_accepted m n _ (tasks_same m n ts _ (λ i l. sym (padded_in 64 no_task n ts i l (omega (arith, g.tasks.1)))) g) in
    rw (ne_eqb n 0 (λ e. omega (arith, g.tasks.0)), checked, padded_again 64 no_task n ts)

-- what is written of a good table reads back to the same table, whatever the default
pub table_reads_back : (d : Default) (t : Table) → checked_table t ≡ Accepted → table_read d (table_bytes t) ≡ Ok (clean_table t)
unfolding table_read table_bytes
table_reads_back d t h =
    let g : GoodTable t.cores t.count (task_of_table t) = accepted_good _ _ _ h in
    ap table_closed (tasks_read d false t.cores (task_of_table t) (λ j. no_piece) t.count g) ∙ table_closes _ _ _ _ _ g

pub clean_same : (t : Table) → t.count ≤ 64 → SameTable t (clean_table t)
clean_same t h = record { cores = refl; count = refl; tasks = λ i l. sym (padded_in 64 no_task t.count (task_of_table t) i l (omega arith)) }

pub clean_is : (t : Table) → CleanTable t → length t.tasks ≡ 64 → clean_table t ≡ t
clean_is t k e = ap (λ (ts : List Task). record { cores = t.cores; count = t.count; tasks = ts }) (sym (padded_is 64 no_task t.count (task_of_table t) t.tasks e (λ i l b. refl) (λ i l b. k.tasks i l)))

-- ---- plans

module _ (m n : ℕ) (ts : ℕ → Task) (pc : ℕ → Piece) where
  abbrev behind : ℕ → Reader
  behind k = reader (field_at true (4 + 15 * n + 10 * k) (4 + 15 * n) false) (plan_of m n ts k pc)

  piece_more : (k : ℕ) → n ≤ 64 → k < 128 → (pc k).cost < 4294967296 → read (behind k) (piece_field (pc k)) ≡ behind (suc k)
  piece_more k h l v =
      let e : further (4 + 15 * n + 10 * k) 10 ≡ 4 + 15 * n + 10 * suc k = further_is _ _ (omega arith) ∙ omega arith in
      read_piece (4 + 15 * n + 10 * k) (4 + 15 * n) false (plan_of m n ts k pc) (pc k) l v ∙ rw (e, padded_more 128 no_piece k pc l, add-one)

  pub read_pieces : n ≤ 64 → (k : ℕ) → k ≤ 128 → ((j : ℕ) → j < k → (pc j).cost < 4294967296) → read (behind 0) (row k (λ j. piece_field (pc j))) ≡ behind k
  read_pieces h zero l v = read_none (behind 0) (λ j. piece_field (pc j))
  read_pieces h (suc k) l v = read_row (behind 0) k (λ j. piece_field (pc j)) ∙ ap (λ (r : Reader). read r (piece_field (pc k))) (read_pieces h k (omega arith) (λ j b. v j (omega arith))) ∙ piece_more k h l (v k (omega arith))

-- a plan's reader behind a good plan hands it out clean
plan_closes : (f : Field) (p : Plan) → f.bad ≡ 0 → f.count ≡ 0 → f.misshapen ≡ false → 1 ≤ p.count → checked_plan p ≡ Accepted → plan_closed (reader f p) ≡ Ok (clean_plan p)
unfolding plan_closed plan_ended ended
plan_closes f p a b c d h = rw (a, b, ne_eqb p.count 0 (λ e. omega arith), c, h)

clean_good : (p : Plan) → GoodPlan p → GoodPlan (clean_plan p)
clean_good p g =
    let n : p.count ≤ 64 = g.table.tasks.1 in
    let k : p.placed ≤ 128 = leb-true _ _ (tests _ _ _ _ _ g.shaped).1 in
    let ts : (i : ℕ) → i < p.count → task_of p i ≡ task_of (clean_plan p) i = λ i l. sym (padded_in 64 no_task p.count (task_of p) i l (omega arith)) in
    let pc : (j : ℕ) → j < p.placed → piece_of p j ≡ piece_of (clean_plan p) j = λ j l. sym (padded_in 128 no_piece p.placed (piece_of p) j l (omega arith)) in
    record { table = tasks_same _ _ _ _ ts g.table; shaped = sym (shape_same _ _ _ pc _ _ _ _ ts) ∙ g.shaped }

-- what is written of a good plan reads back to the same plan, whatever the default
pub plan_reads_back : (d : Default) (p : Plan) → checked_plan p ≡ Accepted → plan_read d (plan_bytes p) ≡ Ok (clean_plan p)
unfolding plan_read plan_bytes
plan_reads_back d p h =
    let g : GoodPlan p = accepted_plan p h in
    let n : (1 ≤ p.count) × (p.count ≤ 64) = g.table.tasks in
    let k : p.placed ≤ 128 = leb-true _ _ (tests _ _ _ _ _ g.shaped).1 in
    let here : 4 + 15 * p.count ≡ 4 + 15 * p.count + 10 * 0 = omega arith in
    let tasks : read (begun d true) (tasks_bytes p.cores p.count (task_of p)) ≡ behind p.cores p.count (task_of p) (piece_of p) 0 = tasks_read d true p.cores (task_of p) (piece_of p) p.count g.table ∙ ap (λ (q : ℕ). reader (field_at true q (4 + 15 * p.count) false) (plan_of p.cores p.count (task_of p) 0 (piece_of p))) here in
    ap plan_closed (sym (read_parts (begun d true) (tasks_bytes p.cores p.count (task_of p)) (row p.placed (λ j. piece_field (piece_of p j))))
    ∙ ap (λ (r : Reader). read r (row p.placed (λ j. piece_field (piece_of p j)))) tasks
    ∙ read_pieces p.cores p.count (task_of p) (piece_of p) n.1 p.placed k (costs_fit p g))
    ∙ plan_closes _ _ refl refl refl n.0 (plan_accepted (clean_plan p) (clean_good p g))
    ∙ rw (padded_again 64 no_task p.count (task_of p), padded_again 128 no_piece p.placed (piece_of p))
