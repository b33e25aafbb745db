-- Round trips through the contracts of the public calls: what is written reads back, and what was read is written again.
use mathlib.Core.Path.{◌≡◌, refl, sym, ap, ◌∙◌}
use mathlib.Core.Bool.{Bool, true, false, cond}
use mathlib.Core.List.{List, ◌++◌}
use Prim.Native.Nat.{ℕ, ◌≤◌}
use native.Mathlib.Omega.{arith}
use lib.Dec.{leb}
use lib.ListN.{length, get_or, take, drop}
use lib.Seq.{take_at}
use borrow.Author.Tests.{eq-eqb}
use Rattle.std.specs.Prelude.{Result, Ok, Err}
use Rattle.tasks.specs.Answers.{Answer, Accepted, Refused}
use Rattle.tasks.specs.declared.Refusal.{Refusal}
use Rattle.tasks.specs.declared.Refusal.TheVariants.{BufferShort}
use Rattle.tasks.specs.declared.Table.{Table}
use Rattle.plans.specs.declared.Plan.{Plan}
use Rattle.writing.specs.Fields.{table_bytes, plan_bytes}
use Rattle.files.specs.Files.{table_read, plan_read}
use Rattle.writing.specs.Writing.{answered, filled, table_written, table_filled, plan_written, plan_filled}
use Rattle.files.specs.declared.Default.{Default}
use Rattle.trips.proofs.Files.{Slice, table_written_again, table_is_good, plan_written_again, plan_is_good}
use Rattle.trips.proofs.RoundTrip.{clean_table, table_reads_back, plan_reads_back}
use Rattle.files.specs.Reading.{clean_plan}
use Rattle.writing.proofs.Writing.{write_done}

-- a length says that the record was good and that the buffer starts with its file
length_says : (a : Answer) (file e : List ℕ) (n : ℕ) → Ok n ≡ answered a file e → (a ≡ Accepted) × (take n (filled a file e) ≡ file)
length_says (Refused x) file e n h = let z : ◌≡◌ {A = ℕ} 0 1 = cc in absurd (omega arith)
length_says Accepted file e n h = go (leb (length file) (length e)) h
  where
    go : (b : Bool) → Ok n ≡ cond b (Ok (length file)) (Err (BufferShort (length file))) → (Accepted ≡ Accepted) × (take n (cond b (file ++ drop (length file) e) e) ≡ file)
    go true q = let m : n ≡ length file = cc in (refl, take_at file _ n (sym m))
    go false q = let z : ◌≡◌ {A = ℕ} 0 1 = cc in absurd (omega arith)

-- what is written of a table reads back to the same table
pub table_out_and_in : (d : Default) (t : Table) (e e' : List ℕ) (n : ℕ) (q : Result Table Refusal) → Ok n ≡ table_written t e → e' ≡ table_filled t e → q ≡ table_read d (take n e') → q ≡ Ok (clean_table t)
unfolding table_written table_filled
table_out_and_in d t e e' n q h k r =
    let l = length_says _ (table_bytes t) e n h in
    r ∙ ap (λ (x : List ℕ). table_read d (take n x)) k ∙ ap (table_read d) l.1 ∙ table_reads_back d t l.0

-- what is written of a plan reads back to the same plan
pub plan_out_and_in : (d : Default) (p : Plan) (e e' : List ℕ) (n : ℕ) (q : Result Plan Refusal) → Ok n ≡ plan_written p e → e' ≡ plan_filled p e → q ≡ plan_read d (take n e') → q ≡ Ok (clean_plan p)
unfolding plan_written plan_filled
plan_out_and_in d p e e' n q h k r =
    let l = length_says _ (plan_bytes p) e n h in
    r ∙ ap (λ (x : List ℕ). plan_read d (take n x)) k ∙ ap (plan_read d) l.1 ∙ plan_reads_back d p l.0

-- every accepted table file that names its core count is written again byte for byte into any buffer that has room for it
pub table_in_and_out : (d : Default) (s e e' : List ℕ) (t : Table) (r : Result ℕ Refusal) → Slice s → Ok t ≡ table_read d s → get_or s 0 0 ≡ 1 → length s ≤ length e
    → r ≡ table_written t e → e' ≡ table_filled t e → (r ≡ Ok (length s)) × (e' ≡ s ++ drop (length s) e)
unfolding table_written table_filled
table_in_and_out d s e e' t r lent k c l h j =
    let same : table_bytes t ≡ s = table_written_again d s lent t (sym k) ∙ rw (eq-eqb _ _ c) in
    let w = write_done _ (table_bytes t) e (table_is_good d s lent t (sym k)) (length s) (ap length same) (length s) (s ++ drop (length s) e) refl l (ap (λ (x : List ℕ). x ++ drop (length s) e) (sym same)) in
    (h ∙ sym w.0, j ∙ sym w.1)

-- every accepted plan file that names its core count is written again byte for byte into any buffer that has room for it
pub plan_in_and_out : (d : Default) (s e e' : List ℕ) (p : Plan) (r : Result ℕ Refusal) → Slice s → Ok p ≡ plan_read d s → get_or s 0 0 ≡ 1 → length s ≤ length e
    → r ≡ plan_written p e → e' ≡ plan_filled p e → (r ≡ Ok (length s)) × (e' ≡ s ++ drop (length s) e)
unfolding plan_written plan_filled
plan_in_and_out d s e e' p r lent k c l h j =
    let same : plan_bytes p ≡ s = plan_written_again d s lent p (sym k) ∙ rw (eq-eqb _ _ c) in
    let w = write_done _ (plan_bytes p) e (plan_is_good d s lent p (sym k)) (length s) (ap length same) (length s) (s ++ drop (length s) e) refl l (ap (λ (x : List ℕ). x ++ drop (length s) e) (sym same)) in
    (h ∙ sym w.0, j ∙ sym w.1)
