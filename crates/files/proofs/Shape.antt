-- A plan file of good fields is accepted or refused with 8 by its shape alone.
use mathlib.Core.Path.{◌≡◌, refl, sym, ap, ◌∙◌}
use mathlib.Core.Bool.{Bool, true, false, cond}
use mathlib.Core.List.{List, [], ◌∷◌}
use Prim.Native.Nat.{ℕ, ◌+◌, ◌<◌}
use native.Mathlib.Decide.{ℕ_discrete}
use native.Mathlib.Omega.{arith}
use lib.Dec.{eqb}
use lib.ListN.{length}
use Rattle.tasks.proofs.Answers.{accepted_not, refused_is, both_accepted, met}
use Rattle.tasks.specs.Places.{place_at}
use Rattle.tasks.specs.Refusals.{nothing, number, Refuses}
use Rattle.tasks.specs.Tables.{and_then}
use Rattle.tasks.specs.Answers.{Answer, Accepted, Refused}
use Rattle.tasks.specs.declared.Refusal.{Refusal}
use Rattle.tasks.specs.declared.Refusal.TheVariants.{TasksAt, NoPlanShape}
use Rattle.files.specs.Files.{plan_read}
use Rattle.files.specs.declared.Default.{Default}
use Rattle.files.specs.Grammar.{Before, answer_of, fields_of, start, behind, fault, judged, tasks_in, tasks_end, record_in, some_task, fields_good, shape_fits, shape_good}
use Rattle.files.proofs.Exactly.{Exactly, chain}
use Rattle.files.proofs.Telling.{refusal_number, fault_most, says_shape}
use Rattle.files.proofs.FirstBad.{positive, judged_good, judged_bad}
use Rattle.files.proofs.AsSaid.{Fits}
use Rattle.files.proofs.FileAnswers.{plan_answer}

-- a bad field is refused with 1 to 6
judged_number : (o : Bool) (fs : List (List ℕ)) (b : Before) (j : ℕ) (x : Refusal) → judged o b j fs ≡ Refused x → number x < 7
unfolding judged
judged_number o [] b j x h = accepted_not (sym h)
judged_number o (f ∷ fs) b j x h = go (ℕ_discrete (fault o b f) 0) (judged_number o fs (behind b f) (j + length f) x)
  where
    go : Dec (fault o b f ≡ 0) → (judged o (behind b f) (j + length f) fs ≡ Refused x → number x < 7) → number x < 7
    go (yes z) ih = ih (sym (judged_good o b j f fs z) ∙ h)
    go (no z) ih = let e : fault o b f ≡ number x = sym (refusal_number (fault o b f) j (positive (fault o b f) z) (fault_most o b f)) ∙ ap number (refused_is {s = x} (sym (judged_bad o b j f fs z) ∙ h)) in omega (arith, fault_most o b f)

-- the fields are never refused with 8
fields_number : (o : Bool) (fs : List (List ℕ)) (x : Refusal) → fields_good o fs ≡ Refused x → number x < 7
fields_number o fs x h = go _ refl h
  where
    some : (c : Bool) → cond c (Refused (TasksAt (place_at (tasks_end 0 fs)))) Accepted ≡ Refused x → number x < 7
    some true q = let e : 6 ≡ number x = ap number (refused_is {r = TasksAt (place_at (tasks_end 0 fs))} {s = x} q) in omega arith
    some false q = accepted_not (sym q)

    go : (a : Answer) → judged o start 0 fs ≡ a → and_then (judged o start 0 fs) (some_task fs) ≡ Refused x → number x < 7
    go Accepted e q = some (eqb (length (tasks_in fs)) 0) (rw e at q)
    go (Refused y) e q = judged_number o fs start 0 x (e ∙ (rw e at q))

module _ (d : Default) (s : List ℕ) (lent : Fits s) where
  -- what good fields with a task have by their shape
  by_shape : fields_good true (fields_of s) ≡ Accepted → answer_of (plan_read d s) ≡ shape_good (fields_of s) (record_in d (fields_of s))
  by_shape h = plan_answer d s lent ∙ ap (λ (a : Answer). and_then a (shape_good (fields_of s) (record_in d (fields_of s)))) h

  -- a plan file is accepted exactly when its fields are good, one is a task, and it has the shape
  pub plan_accepted : Exactly (answer_of (plan_read d s) ≡ Accepted) ((fields_good true (fields_of s) ≡ Accepted) × (shape_fits (fields_of s) (record_in d (fields_of s)) ≡ true))
  plan_accepted = record { only = only; when = λ h. by_shape h.0 ∙ rw h.1 }
    where
      only : answer_of (plan_read d s) ≡ Accepted → (fields_good true (fields_of s) ≡ Accepted) × (shape_fits (fields_of s) (record_in d (fields_of s)) ≡ true)
      only h =
          let b : (fields_good true (fields_of s) ≡ Accepted) × (shape_good (fields_of s) (record_in d (fields_of s)) ≡ Accepted) = both_accepted (fields_good true (fields_of s)) (shape_good (fields_of s) (record_in d (fields_of s))) (sym (plan_answer d s lent) ∙ h) in
          (b.0, met (shape_fits (fields_of s) (record_in d (fields_of s))) NoPlanShape b.1)

  -- 8: it is refused so exactly when its fields are good, one is a task, and it does not have the shape
  pub bad_shape : Exactly (Refuses (answer_of (plan_read d s)) 8 nothing) ((fields_good true (fields_of s) ≡ Accepted) × (shape_fits (fields_of s) (record_in d (fields_of s)) ≡ false))
  bad_shape = chain (says_shape (answer_of (plan_read d s))) (record { only = λ h. only _ refl (sym (plan_answer d s lent) ∙ h); when = λ h. by_shape h.0 ∙ rw h.1 })
    where
      fails : (c : Bool) → cond c Accepted (Refused NoPlanShape) ≡ Refused NoPlanShape → c ≡ false
      fails true q = accepted_not (sym q)
      fails false q = refl

      only : (a : Answer) → fields_good true (fields_of s) ≡ a → and_then (fields_good true (fields_of s)) (shape_good (fields_of s) (record_in d (fields_of s))) ≡ Refused NoPlanShape → (fields_good true (fields_of s) ≡ Accepted) × (shape_fits (fields_of s) (record_in d (fields_of s)) ≡ false)
      only Accepted e h = (e, fails (shape_fits (fields_of s) (record_in d (fields_of s))) (rw e at h))
      only (Refused y) e h = let q : number NoPlanShape < 7 = fields_number true (fields_of s) NoPlanShape (e ∙ (rw e at h)) in absurd (omega arith)
