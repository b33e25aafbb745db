-- Reading a file byte after byte gives the answer and the record that document 01 says of the file.
use mathlib.Core.Path.{◌≡◌, refl, sym, ap, ◌∙◌}
use mathlib.Core.Bool.{Bool, true, false, cond}
use mathlib.Core.List.{List, [], ◌∷◌}
use mathlib.Core.Logic.{◌⊎◌, inl, inr}
use Prim.Native.Nat.{ℕ, ◌+◌, ◌≤◌, ◌<◌}
use native.Mathlib.Decide.{dec_lt}
use native.Mathlib.Omega.{arith}
use lib.Dec.{leb, eqb}
use Rattle.std.specs.Prelude.{Result, Ok}
use lib.ListN.{length}
use borrow.Author.Tests.{eqb-false, lt-leb}
use Rattle.tasks.proofs.Answers.{accepted_not}
use Rattle.tasks.proofs.Bools.{clash, not_first, not_second}
use Rattle.tasks.specs.Places.{place_at}
use Rattle.tasks.specs.Tables.{and_then, checked_tasks}
use Rattle.tasks.specs.Answers.{Answer, Accepted, Refused}
use Rattle.tasks.specs.declared.Refusal.{Refusal}
use Rattle.tasks.specs.declared.Refusal.TheVariants.{TasksAt, NoPlanShape}
use Rattle.tasks.specs.declared.Task.{Task}
use Rattle.plans.specs.Pieces.{task_of, piece_of}
use Rattle.plans.specs.declared.Piece.{Piece}
use Rattle.plans.specs.declared.Plan.{Plan}
use Rattle.plans.specs.Shape.{shape, checked_plan}
use Rattle.files.specs.Fields.{field_at, refused_field, read}
use Rattle.files.specs.declared.Default.{Default}
use Rattle.files.specs.declared.Field.{Field}
use Rattle.files.specs.declared.Reader.{Reader}
use Rattle.files.specs.Reading.{begun, moved_to, ended, fields_answer, ended_after, table_ended, plan_ended, clean_plan, table_closed, plan_closed}
use Rattle.files.specs.Files.{table_read, plan_read}
use Rattle.files.specs.Grammar.{default_cores, refusal, answered, table_of, filled_to, fields_of, start, judged, tasks_in, pieces_in, kinds_fit, cores_in, tasks_end, record_in, some_task, fields_good, shape_good, table_said, plan_said}
use Rattle.files.proofs.FirstBad.{positive}
use Rattle.files.proofs.GoodFields.{table_good, tasks_few, no_piece_lem}
use Rattle.files.proofs.Clean.{record_clean}
use Rattle.files.proofs.Named.{cores_from}
use Rattle.files.proofs.Turns.{Through}
use Rattle.files.proofs.FieldsRead.{FieldsRead, fields_read}

-- a file's length is one that a machine word holds
abbrev pub Fits : List ℕ → Type 0
Fits s = length s ≤ 18446744073709551615

-- a file, read from its start
start_read : (d : Default) (o : Bool) (s : List ℕ) → Fits s → FieldsRead o 0 0 false (default_cores d) [] [] (fields_of s) (read (begun d o) s)
unfolding filled_to
start_read d o s lent = fields_read (length s) s o 0 0 false (default_cores d) [] [] (omega arith) (omega arith) (omega (arith, lent))

-- at the start the known core count is the default
cores_is : (d : Default) (fs : List (List ℕ)) → cores_from true (default_cores d) fs ≡ cores_in d fs
cores_is d [] = refl
cores_is d (f ∷ fs) = refl

-- behind good fields only the number of tasks is left to ask
at_end : (o : Bool) (place end : ℕ) (w : Bool) (n : ℕ) → ended_after (field_at o place end w) n ≡ cond (eqb n 0) (Refused (TasksAt (place_at end))) Accepted
unfolding ended refusal
at_end o place end w n = go (eqb n 0)
  where
    go : (b : Bool) → fields_answer (cond b (refused_field (moved_to (field_at o place end w) end) 6) (field_at o place end w)) ≡ cond b (Refused (TasksAt (place_at end))) Accepted
    go true = refl
    go false = refl

-- so the reader's last word is document 01's
end_is : (d : Default) (o : Bool) (fs : List (List ℕ)) (r : Reader) → Through o 0 0 false (default_cores d) [] [] fs r → ended_after r.field r.plan.count ≡ some_task fs
end_is d o fs r t = ap (λ (x : Reader). ended_after x.field x.plan.count) t.is ∙ at_end o t.place (tasks_end 0 fs) t.spoilt (length (tasks_in fs))

-- where no task is missing there is one
pub some_task_lem : (fs : List (List ℕ)) → some_task fs ≡ Accepted → 1 ≤ length (tasks_in fs)
some_task_lem fs h = go _ refl h
  where
    go : (c : Bool) → eqb (length (tasks_in fs)) 0 ≡ c → cond c (Refused (TasksAt (place_at (tasks_end 0 fs)))) Accepted ≡ Accepted → 1 ≤ length (tasks_in fs)
    go true e q = accepted_not q
    go false e q = positive (length (tasks_in fs)) (eqb-false (length (tasks_in fs)) 0 e)

-- of a record that is clean if it is accepted the very record is given, or its table
given_clean : {A : Type 0} (part : Plan → A) (a : Answer) (p : Plan) → (a ≡ Accepted → clean_plan p ≡ p) → answered a (part (clean_plan p)) ≡ answered a (part p)
given_clean part Accepted p h = ap (λ (q : Plan). Ok (part q)) (h refl)
given_clean part (Refused x) p h = refl

-- ---- a table file

-- a refusal of the fields is the table file's
table_refused : (f : Field) (p : Plan) (x : Refusal) → ended_after f p.count ≡ Refused x → table_ended f p ≡ Refused x
unfolding table_ended
table_refused f p x h = rw h

-- where no piece was read what was read is judged as a record
table_left : (f : Field) (p : Plan) → f.pieces ≡ false → p.placed ≡ 0 → table_ended f p ≡ and_then (ended_after f p.count) (checked_tasks p.cores p.count (task_of p))
unfolding table_ended
table_left f p h k = rw (h, k)

-- every table file is read as document 01 says
pub table_as_said : (d : Default) (s : List ℕ) → Fits s → table_read d s ≡ table_said d s
unfolding table_read table_closed table_said
table_as_said d s lent = go (start_read d false s lent)
  where
    go : FieldsRead false 0 0 false (default_cores d) [] [] (fields_of s) (read (begun d false) s)
        → answered (table_ended (read (begun d false) s).field (read (begun d false) s).plan) (table_of (clean_plan (read (begun d false) s).plan)) ≡ answered (fields_good false (fields_of s)) (table_of (record_in d (fields_of s)))
    go (inl b) =
        let j : judged false start 0 (fields_of s) ≡ Refused (refusal b.number b.place) = b.is in
        let q : table_ended (read (begun d false) s).field (read (begun d false) s).plan ≡ Refused (refusal b.number b.place) = table_refused (read (begun d false) s).field (read (begun d false) s).plan (refusal b.number b.place) (b.refuses (read (begun d false) s).plan.count) in
        rw (q, j)
    go (inr b) =
        ap (λ (a : Answer). answered a (table_of (clean_plan (read (begun d false) s).plan))) ended_is
        ∙ ap (λ (p : Plan). answered (some_task (fields_of s)) (table_of (clean_plan p))) plan_is
        ∙ given_clean table_of (some_task (fields_of s)) (record_in d (fields_of s)) (λ h. record_clean (cores_in d (fields_of s)) (tasks_in (fields_of s)) (pieces_in (fields_of s)) (tasks_few false (fields_of s) j) (omega (arith, ap length none.0)))
        ∙ rw j
      where
        j : judged false start 0 (fields_of s) ≡ Accepted
        j = b.0

        t : Through false 0 0 false (default_cores d) [] [] (fields_of s) (read (begun d false) s)
        t = b.1

        none : (pieces_in (fields_of s) ≡ []) × (kinds_fit (fields_of s) ≡ true)
        none = no_piece_lem (fields_of s) start 0 j

        -- no piece was read
        taken_none : (w : Bool) → t.spoilt ≡ w → t.taken ≡ pieces_in (fields_of s)
        taken_none true q = spoilt (t.spoils q)
          where
            spoilt : (false ≡ true) ⊎ ((kinds_fit (fields_of s) ≡ false) ⊎ (128 < 0 + length (pieces_in (fields_of s)))) → t.taken ≡ pieces_in (fields_of s)
            spoilt (inl a) = clash a refl
            spoilt (inr (inl a)) = clash none.1 a
            spoilt (inr (inr l)) = absurd (omega (arith, ap length none.0))
        taken_none false q = (t.plain q).1.0

        plan_is : (read (begun d false) s).plan ≡ record_in d (fields_of s)
        plan_is = ap (λ (x : Reader). x.plan) t.is ∙ rw (taken_none _ refl, cores_is d (fields_of s))

        -- of good fields only the number of tasks is left to refuse
        passes : (a : Answer) → some_task (fields_of s) ≡ a → and_then a (checked_tasks (read (begun d false) s).plan.cores (read (begun d false) s).plan.count (task_of (read (begun d false) s).plan)) ≡ a
        passes Accepted q = ap (λ (p : Plan). checked_tasks p.cores p.count (task_of p)) plan_is ∙ table_good d false (fields_of s) j (some_task_lem (fields_of s) q)
        passes (Refused x) q = refl

        ended_is : table_ended (read (begun d false) s).field (read (begun d false) s).plan ≡ some_task (fields_of s)
        ended_is =
            table_left (read (begun d false) s).field (read (begun d false) s).plan (ap (λ (x : Reader). x.field.pieces) t.is) (ap (λ (p : Plan). p.placed) plan_is ∙ ap length none.0)
            ∙ ap (λ (a : Answer). and_then a (checked_tasks (read (begun d false) s).plan.cores (read (begun d false) s).plan.count (task_of (read (begun d false) s).plan))) (end_is d false (fields_of s) (read (begun d false) s) t)
            ∙ passes _ refl

-- ---- a plan file

-- more than 128 pieces have no shape
shape_many : (m n : ℕ) (ts : ℕ → Task) (pc : ℕ → Piece) (k : ℕ) → 128 < k → shape m n ts pc k ≡ false
unfolding shape
shape_many m n ts pc k h = not_first _ (not_first _ (not_second (leb 1 k) (lt-leb k 128 h)))

-- a spoilt reader's file has no shape
spoilt_shape : (fs : List (List ℕ)) (p : Plan) → p.placed ≡ length (pieces_in fs) → (false ≡ true) ⊎ ((kinds_fit fs ≡ false) ⊎ (128 < 0 + length (pieces_in fs))) → shape_good fs p ≡ Refused NoPlanShape
spoilt_shape fs p e (inl a) = clash a refl
spoilt_shape fs p e (inr (inl a)) = rw a
spoilt_shape fs p e (inr (inr l)) = rw (not_second (kinds_fit fs) (shape_many p.cores p.count (task_of p) (piece_of p) p.placed (omega arith)))

-- a refusal of the fields is the plan file's
field_refused : (f : Field) (p : Plan) (x : Refusal) → ended_after f p.count ≡ Refused x → plan_ended f p ≡ Refused x
unfolding plan_ended
field_refused f p x h = rw h

-- behind good fields a plan file is judged by its pieces and its record
fields_passed : (f : Field) (p : Plan) → ended_after f p.count ≡ Accepted → plan_ended f p ≡ cond f.misshapen (Refused NoPlanShape) (checked_plan p)
unfolding plan_ended
fields_passed f p h = rw h

-- a plan with a good table is judged by its shape
table_checked : (p : Plan) → checked_tasks p.cores p.count (task_of p) ≡ Accepted → checked_plan p ≡ cond (shape p.cores p.count (task_of p) (piece_of p) p.placed) Accepted (Refused NoPlanShape)
unfolding checked_plan
table_checked p h = rw h

-- every plan file is read as document 01 says
pub plan_as_said : (d : Default) (s : List ℕ) → Fits s → plan_read d s ≡ plan_said d s
unfolding plan_read plan_closed plan_said
plan_as_said d s lent = go (start_read d true s lent)
  where
    said : Answer → Result Plan Refusal
    said a = answered (and_then a (shape_good (fields_of s) (record_in d (fields_of s)))) (record_in d (fields_of s))

    refused : (x : Refusal) (p : Plan) → ended_after (read (begun d true) s).field (read (begun d true) s).plan.count ≡ Refused x → answered (plan_ended (read (begun d true) s).field (read (begun d true) s).plan) p ≡ said (Refused x)
    refused x p h = ap (λ (a : Answer). answered a p) (field_refused (read (begun d true) s).field (read (begun d true) s).plan x h)

    go : FieldsRead true 0 0 false (default_cores d) [] [] (fields_of s) (read (begun d true) s) → answered (plan_ended (read (begun d true) s).field (read (begun d true) s).plan) (clean_plan (read (begun d true) s).plan) ≡ said (fields_good true (fields_of s))
    go (inl b) =
        let j : judged true start 0 (fields_of s) ≡ Refused (refusal b.number b.place) = b.is in
        refused (refusal b.number b.place) (clean_plan (read (begun d true) s).plan) (b.refuses (read (begun d true) s).plan.count) ∙ rw j
    go (inr b) = answer _ refl
      where
        t : Through true 0 0 false (default_cores d) [] [] (fields_of s) (read (begun d true) s)
        t = b.1

        j : judged true start 0 (fields_of s) ≡ Accepted
        j = b.0

        ends : ended_after (read (begun d true) s).field (read (begun d true) s).plan.count ≡ some_task (fields_of s)
        ends = end_is d true (fields_of s) (read (begun d true) s) t

        -- behind good fields what was read is judged as a record
        left : ended_after (read (begun d true) s).field (read (begun d true) s).plan.count ≡ Accepted → plan_ended (read (begun d true) s).field (read (begun d true) s).plan ≡ cond (read (begun d true) s).field.misshapen (Refused NoPlanShape) (checked_plan (read (begun d true) s).plan)
        left h = fields_passed (read (begun d true) s).field (read (begun d true) s).plan h

        -- and of it only the shape is left to refuse
        checked : some_task (fields_of s) ≡ Accepted → checked_plan (record_in d (fields_of s)) ≡ cond (shape (cores_in d (fields_of s)) (length (tasks_in (fields_of s))) (task_of (record_in d (fields_of s))) (piece_of (record_in d (fields_of s))) (length (pieces_in (fields_of s)))) Accepted (Refused NoPlanShape)
        checked h = table_checked (record_in d (fields_of s)) (table_good d true (fields_of s) j (some_task_lem (fields_of s) h))

        -- a record that has the shape has room for its tasks and pieces
        clean : shape_good (fields_of s) (record_in d (fields_of s)) ≡ Accepted → clean_plan (record_in d (fields_of s)) ≡ record_in d (fields_of s)
        clean h = record_clean (cores_in d (fields_of s)) (tasks_in (fields_of s)) (pieces_in (fields_of s)) (tasks_few true (fields_of s) j) (few (dec_lt 128 (length (pieces_in (fields_of s)))))
          where
            few : Dec (128 < length (pieces_in (fields_of s))) → length (pieces_in (fields_of s)) ≤ 128
            few (yes l) = accepted_not (sym (spoilt_shape (fields_of s) (record_in d (fields_of s)) refl (inr (inr (omega arith)))) ∙ h)
            few (no l) = omega arith

        -- the reader is spoilt exactly where a kind or the number of pieces is bad
        shaped : (w : Bool) → t.spoilt ≡ w → some_task (fields_of s) ≡ Accepted → answered (plan_ended (read (begun d true) s).field (read (begun d true) s).plan) (clean_plan (read (begun d true) s).plan) ≡ said Accepted
        shaped true q h =
            let m : (read (begun d true) s).field.misshapen ≡ true = ap (λ (x : Reader). x.field.misshapen) t.is ∙ q in
            let a : plan_ended (read (begun d true) s).field (read (begun d true) s).plan ≡ Refused NoPlanShape = left (ends ∙ h) ∙ rw m in
            ap (λ (x : Answer). answered x (clean_plan (read (begun d true) s).plan)) a ∙ rw (spoilt_shape (fields_of s) (record_in d (fields_of s)) refl (t.spoils q))
        shaped false q h =
            let m : (read (begun d true) s).field.misshapen ≡ false = ap (λ (x : Reader). x.field.misshapen) t.is ∙ q in
            let z : t.taken ≡ pieces_in (fields_of s) = (t.plain q).1.0 in
            let p : (read (begun d true) s).plan ≡ record_in d (fields_of s) = ap (λ (x : Reader). x.plan) t.is ∙ rw (z, cores_is d (fields_of s)) in
            let a : plan_ended (read (begun d true) s).field (read (begun d true) s).plan ≡ shape_good (fields_of s) (record_in d (fields_of s)) = left (ends ∙ h) ∙ rw (m, p) (checked h ∙ rw (t.plain q).1.1) in
            ap (λ (x : Answer). answered x (clean_plan (read (begun d true) s).plan)) a ∙ ap (λ (x : Plan). answered (shape_good (fields_of s) (record_in d (fields_of s))) (clean_plan x)) p ∙ given_clean (λ (p : Plan). p) (shape_good (fields_of s) (record_in d (fields_of s))) (record_in d (fields_of s)) clean

        fields_are : (a : Answer) → some_task (fields_of s) ≡ a → fields_good true (fields_of s) ≡ a
        fields_are a q = rw j q

        answer : (a : Answer) → some_task (fields_of s) ≡ a → answered (plan_ended (read (begun d true) s).field (read (begun d true) s).plan) (clean_plan (read (begun d true) s).plan) ≡ said (fields_good true (fields_of s))
        answer Accepted q = shaped _ refl q ∙ ap said (sym (fields_are _ q))
        answer (Refused x) q = refused x (clean_plan (read (begun d true) s).plan) (ends ∙ q) ∙ ap said (sym (fields_are _ q))
