-- An accepted file: its fields are good, there is a task, and its record is what the fields name; the core count is the first field's or the stated default.
use mathlib.Core.Path.{◌≡◌, refl, sym, ap, ◌∙◌}
use mathlib.Core.Bool.{Bool, true, false, cond}
use mathlib.Core.List.{List, [], ◌∷◌}
use Prim.Native.Nat.{ℕ, ◌≤◌, ◌<◌}
use native.Mathlib.Decide.{ℕ_discrete}
use native.Mathlib.Omega.{arith}
use lib.Dec.{eqb}
use Rattle.std.specs.Prelude.{Ok}
use lib.ListN.{length, get_or, take}
use lib.Seq.{get_or-take}
use borrow.Author.Tests.{eq-eqb, ne_eqb}
use Rattle.tasks.proofs.Answers.{accepted_not, both_accepted}
use Rattle.tasks.specs.Tables.{no_task}
use Rattle.tasks.specs.Answers.{Accepted}
use Rattle.tasks.specs.declared.Table.{Table}
use Rattle.plans.specs.declared.Plan.{Plan}
use Rattle.files.specs.declared.Default.{Default}
use Rattle.files.specs.Files.{table_read, plan_read}
use Rattle.files.specs.Grammar.{number2, length_for, default_cores, answer_of, table_of, field_length, filled_to, cut, fields_of, tag_of, start, fault, judged, tasks_in, cores_in, record_in, some_task, fields_good, table_said, plan_said}
use Rattle.files.specs.Rules.{BodyGood}
use Rattle.files.proofs.Exactly.{Exactly}
use Rattle.files.proofs.GoodFields.{whole_field}
use Rattle.files.proofs.AsSaid.{Fits, some_task_lem, table_as_said, plan_as_said}
use Rattle.files.proofs.FileAnswers.{given, table_answer, plan_answer}

-- ---- what is accepted

-- the fields are accepted exactly when all are good and one is a task
pub fields_accepted : (o : Bool) (fs : List (List ℕ)) → Exactly (fields_good o fs ≡ Accepted) ((judged o start 0 fs ≡ Accepted) × (1 ≤ length (tasks_in fs)))
fields_accepted o fs = record { only = only; when = λ h. rw (h.0, ne_eqb (length (tasks_in fs)) 0 (λ q. omega (arith, h.1))) }
  where
    only : fields_good o fs ≡ Accepted → (judged o start 0 fs ≡ Accepted) × (1 ≤ length (tasks_in fs))
    only h = let b : (judged o start 0 fs ≡ Accepted) × (some_task fs ≡ Accepted) = both_accepted (judged o start 0 fs) (some_task fs) h in (b.0, some_task_lem fs b.1)

-- a table file is accepted exactly when all its fields are good and one is a task
pub table_accepted : (d : Default) (s : List ℕ) → Fits s → Exactly (answer_of (table_read d s) ≡ Accepted) ((judged false start 0 (fields_of s) ≡ Accepted) × (1 ≤ length (tasks_in (fields_of s))))
table_accepted d s lent = let e : Exactly (fields_good false (fields_of s) ≡ Accepted) ((judged false start 0 (fields_of s) ≡ Accepted) × (1 ≤ length (tasks_in (fields_of s)))) = fields_accepted false (fields_of s) in
    record { only = λ h. e.only (sym (table_answer d s lent) ∙ h); when = λ h. table_answer d s lent ∙ e.when h }

-- an accepted table file's record is what its fields name
pub table_record : (d : Default) (s : List ℕ) → Fits s → (t : Table) → table_read d s ≡ Ok t → t ≡ record { cores = cores_in d (fields_of s); count = length (tasks_in (fields_of s)); tasks = filled_to 64 no_task (tasks_in (fields_of s)) }
unfolding table_said
table_record d s lent t h = sym (given (fields_good false (fields_of s)) (table_of (record_in d (fields_of s))) t (sym (table_as_said d s lent) ∙ h)).1

-- an accepted plan file's record is what its fields name
pub plan_record : (d : Default) (s : List ℕ) → Fits s → (p : Plan) → plan_read d s ≡ Ok p → p ≡ record_in d (fields_of s)
unfolding plan_said
plan_record d s lent p h = sym (given _ (record_in d (fields_of s)) p (sym (plan_as_said d s lent) ∙ h)).1

-- ---- the core count

-- without tag 1 at its start a file has as many cores as the default says
cores_absent : (d : Default) (s : List ℕ) → (get_or s 0 0 ≡ 1 → ⊥) → cores_in d (fields_of s) ≡ default_cores d
unfolding cut
cores_absent d [] h = refl
cores_absent d (x ∷ s) h = rw (get_or-take (field_length (x ∷ s)) (x ∷ s) 0 0 (omega arith), ne_eqb x 1 h)

-- with it, and its fields being good, a file has the cores that it names
cores_named : (d : Default) (o : Bool) (s : List ℕ) → judged o start 0 (fields_of s) ≡ Accepted → get_or s 0 0 ≡ 1 → cores_in d (fields_of s) ≡ get_or s 3 0
unfolding cut judged
cores_named d o [] g h = absurd (omega arith)
cores_named d o (x ∷ s) g h = go (ℕ_discrete (fault o start (take (field_length (x ∷ s)) (x ∷ s))) 0)
  where
    there : (i : ℕ) → i < field_length (x ∷ s) → get_or (take (field_length (x ∷ s)) (x ∷ s)) i 0 ≡ get_or (x ∷ s) i 0
    there i l = get_or-take (field_length (x ∷ s)) (x ∷ s) i 0 l

    go : Dec (fault o start (take (field_length (x ∷ s)) (x ∷ s)) ≡ 0) → cond (eqb (tag_of (take (field_length (x ∷ s)) (x ∷ s))) 1) (get_or (take (field_length (x ∷ s)) (x ∷ s)) 3 0) (default_cores d) ≡ get_or (x ∷ s) 3 0
    go (no z) = accepted_not (rw (ne_eqb (fault o start (take (field_length (x ∷ s)) (x ∷ s))) 0 z) at g)
    go (yes z) =
        let body : BodyGood o start (take (field_length (x ∷ s)) (x ∷ s)) = whole_field o start (take (field_length (x ∷ s)) (x ∷ s)) z in
        let t : tag_of (take (field_length (x ∷ s)) (x ∷ s)) ≡ 1 = there 0 (omega arith) ∙ h in
        let n : number2 (take (field_length (x ∷ s)) (x ∷ s)) 1 ≡ 1 = body.header.size ∙ ap length_for t in
        let m : number2 (x ∷ s) 1 ≡ 1 = omega (arith, there 1 (omega arith), there 2 (omega arith)) in
        rw (eq-eqb (tag_of (take (field_length (x ∷ s)) (x ∷ s))) 1 t) (there 3 (omega arith))

module _ (d : Default) (s : List ℕ) (lent : Fits s) where
  -- a table file of good fields, one of them a task, that has no tag 1 is accepted and is for as many cores as the default says
  pub default_cores_lem : judged false start 0 (fields_of s) ≡ Accepted → 1 ≤ length (tasks_in (fields_of s)) → (get_or s 0 0 ≡ 1 → ⊥) → (t : Table) × ((table_read d s ≡ Ok t) × (t.cores ≡ default_cores d))
  unfolding table_said
  default_cores_lem good some absent =
      let a : fields_good false (fields_of s) ≡ Accepted = (fields_accepted false (fields_of s)).when (good, some) in
      (table_of (record_in d (fields_of s)), (table_as_said d s lent ∙ rw a, cores_absent d s absent))

  -- an accepted table file that names its core count is for that many
  pub named_cores : (t : Table) → table_read d s ≡ Ok t → get_or s 0 0 ≡ 1 → t.cores ≡ get_or s 3 0
  named_cores t e h = rw (table_record d s lent t e) (cores_named d false s ((table_accepted d s lent).only (ap answer_of e)).0 h)

  -- so an accepted table file is for as many cores as it names, otherwise for as many as the default says
  pub table_cores : (t : Table) → table_read d s ≡ Ok t → t.cores ≡ cond (eqb (get_or s 0 0) 1) (get_or s 3 0) (default_cores d)
  table_cores t e = go (ℕ_discrete (get_or s 0 0) 1)
    where
      go : Dec (get_or s 0 0 ≡ 1) → t.cores ≡ cond (eqb (get_or s 0 0) 1) (get_or s 3 0) (default_cores d)
      go (yes h) = named_cores t e h ∙ rw (eq-eqb (get_or s 0 0) 1 h)
      go (no h) = ap (λ (u : Table). u.cores) (table_record d s lent t e) ∙ cores_absent d s h ∙ rw (ne_eqb (get_or s 0 0) 1 h)

  -- an accepted plan file without tag 1 is for as many cores as the default says
  pub plan_default_cores : (p : Plan) → plan_read d s ≡ Ok p → (get_or s 0 0 ≡ 1 → ⊥) → p.cores ≡ default_cores d
  plan_default_cores p e absent = rw (plan_record d s lent p e) (cores_absent d s absent)

  -- one that names its core count is for that many
  pub plan_named_cores : (p : Plan) → plan_read d s ≡ Ok p → get_or s 0 0 ≡ 1 → p.cores ≡ get_or s 3 0
  plan_named_cores p e h =
      let fields : fields_good true (fields_of s) ≡ Accepted = (both_accepted (fields_good true (fields_of s)) _ (sym (plan_answer d s lent) ∙ ap answer_of e)).0 in
      rw (plan_record d s lent p e) (cores_named d true s ((fields_accepted true (fields_of s)).only fields).0 h)
