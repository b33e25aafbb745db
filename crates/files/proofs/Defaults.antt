-- What the stated default changes: the core count of a file that does not name one, and with it whether a plan of such a file has the shape; nothing else.
use mathlib.Core.Path.{◌≡◌, sym, ◌∙◌}
use mathlib.Core.Bool.{Bool}
use mathlib.Core.List.{List, [], ◌∷◌}
use Prim.Native.Nat.{ℕ, ◌<◌}
use native.Mathlib.Omega.{arith}
use lib.ListN.{get_or}
use lib.Seq.{get_or-take}
use borrow.Author.Tests.{eq-eqb}
use Rattle.tasks.specs.Refusals.{number}
use Rattle.tasks.specs.Answers.{Refused}
use Rattle.tasks.specs.declared.Refusal.{Refusal}
use Rattle.files.specs.Files.{table_read, plan_read, answer_to}
use Rattle.files.specs.Grammar.{answer_of, field_length, cut, fields_of, cores_in, table_said, plan_said}
use Rattle.files.specs.declared.Default.{Default}
use Rattle.files.proofs.Exactly.{Exactly}
use Rattle.files.proofs.AsSaid.{Fits, table_as_said, plan_as_said}
use Rattle.files.proofs.FileAnswers.{table_answer, by_fields}

module _ (c d : Default) (s : List ℕ) (lent : Fits s) where
  -- a table file gets one answer, whatever the default
  pub answered_alike : answer_of (table_read c s) ≡ answer_of (table_read d s)
  answered_alike = table_answer c s lent ∙ sym (table_answer d s lent)

  -- any file gets each refusal but 8 under both or under none
  pub refused_alike : (o : Bool) (x : Refusal) → number x < 7 → Exactly (answer_to c o s ≡ Refused x) (answer_to d o s ≡ Refused x)
  refused_alike o x l = record { only = λ h. (by_fields d o s lent x l).when ((by_fields c o s lent x l).only h); when = λ h. (by_fields c o s lent x l).when ((by_fields d o s lent x l).only h) }

-- a first field with tag 1 names the core count
count_alike : (c d : Default) (s : List ℕ) → get_or s 0 0 ≡ 1 → cores_in c (fields_of s) ≡ cores_in d (fields_of s)
unfolding cut
count_alike c d [] h = absurd (omega arith)
count_alike c d (x ∷ s) h = rw (get_or-take (field_length (x ∷ s)) (x ∷ s) 0 0 (omega arith), eq-eqb x 1 h)

module _ (c d : Default) (s : List ℕ) (lent : Fits s) (named : get_or s 0 0 ≡ 1) where
  -- a table file that names its core count is read alike under both
  pub table_alike : table_read c s ≡ table_read d s
  unfolding table_said
  table_alike = table_as_said c s lent ∙ rw (count_alike c d s named) (sym (table_as_said d s lent))

  -- and so is a plan file
  pub plan_alike : plan_read c s ≡ plan_read d s
  unfolding plan_said
  plan_alike = plan_as_said c s lent ∙ rw (count_alike c d s named) (sym (plan_as_said d s lent))
