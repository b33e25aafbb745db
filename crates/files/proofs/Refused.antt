-- Each refusal of a file is given with place k exactly when the field at k is the first bad one and breaks its rule.
use mathlib.Core.Path.{◌≡◌}
use mathlib.Core.Bool.{Bool}
use mathlib.Core.List.{List}
use mathlib.Core.Logic.{◌⊎◌}
use Prim.Native.Nat.{ℕ, ◌≤◌, ◌<◌}
use native.Mathlib.Omega.{arith}
use Rattle.tasks.specs.Places.{place_at}
use Rattle.tasks.specs.Refusals.{place, number, Refuses}
use Rattle.tasks.specs.declared.Refusal.TheVariants.{TasksAt}
use Rattle.files.specs.Grammar.{refusal, Before, fields_of, fault}
use Rattle.files.specs.Rules.{EndsInside, BadTag, TaskPast, BadLength, BadCores, BadValues, FirstBad, NoTask}
use Rattle.files.specs.Files.{answer_to}
use Rattle.files.specs.declared.Default.{Default}
use Rattle.files.proofs.Exactly.{Exactly, chain, beside}
use Rattle.files.proofs.Telling.{refusal_number, says_place}
use Rattle.files.proofs.AsSaid.{Fits}
use Rattle.files.proofs.Faults.{Breaks, fault_told, inside_fault, tag_fault, past_fault, length_fault, cores_fault, values_fault_lem}
use Rattle.files.proofs.FirstBad.{first_bad}
use Rattle.files.proofs.FileAnswers.{by_fields, by_first, by_six}

-- a field breaks the rule of its fault
broken : (o : Bool) (x : ℕ) (b : Before) (f : List ℕ) → fault o b f ≡ x → Breaks x o b f
broken o x b f h = rw h at (fault_told o b f)

module _ (d : Default) (o : Bool) (s : List ℕ) (lent : Fits s) (k : ℕ) where
  -- a refusal below 6
  field_refused : (x : ℕ) (Rule : Bool → Before → List ℕ → Type 0) → 1 ≤ x → x < 6 → ((b : Before) (f : List ℕ) → Exactly (fault o b f ≡ x) (Rule o b f)) → Exactly (Refuses (answer_to d o s) x (place k)) (FirstBad o (fields_of s) Rule k)
  field_refused x Rule a l r =
      let n : number (refusal x k) ≡ x = refusal_number x k a (omega arith) in
      chain (says_place (answer_to d o s) x k a (omega arith)) (chain (by_fields d o s lent (refusal x k) (omega arith)) (chain (by_first o (fields_of s) (refusal x k) (omega arith)) (first_bad o x k a (omega arith) (fields_of s) Rule r)))

  -- 1: the file ends inside a field
  pub ends_inside : Exactly (Refuses (answer_to d o s) 1 (place k)) (FirstBad o (fields_of s) EndsInside k)
  unfolding Breaks
  ends_inside = field_refused 1 EndsInside (omega arith) (omega arith) (λ b f. record { only = broken o 1 b f; when = inside_fault o b f })

  -- 2: tag unknown or out of its order
  pub bad_tag : Exactly (Refuses (answer_to d o s) 2 (place k)) (FirstBad o (fields_of s) BadTag k)
  unfolding Breaks
  bad_tag = field_refused 2 BadTag (omega arith) (omega arith) (λ b f. record { only = broken o 2 b f; when = tag_fault o b f })

  -- 3: length wrong for the tag
  pub bad_length : Exactly (Refuses (answer_to d o s) 3 (place k)) (FirstBad o (fields_of s) BadLength k)
  unfolding Breaks
  bad_length = field_refused 3 BadLength (omega arith) (omega arith) (λ b f. record { only = broken o 3 b f; when = length_fault o b f })

  -- 4: core count not 1 to 16
  pub bad_cores : Exactly (Refuses (answer_to d o s) 4 (place k)) (FirstBad o (fields_of s) BadCores k)
  unfolding Breaks
  bad_cores = field_refused 4 BadCores (omega arith) (omega arith) (λ b f. record { only = broken o 4 b f; when = cores_fault o b f })

  -- 5: c, d, p out of range
  pub bad_values : Exactly (Refuses (answer_to d o s) 5 (place k)) (FirstBad o (fields_of s) BadValues k)
  unfolding Breaks
  bad_values = field_refused 5 BadValues (omega arith) (omega arith) (λ b f. record { only = broken o 5 b f; when = values_fault_lem o b f })

  -- 6: a 65th task, or no task and the tasks end at k
  pub bad_tasks : Exactly (Refuses (answer_to d o s) 6 (place k)) (FirstBad o (fields_of s) TaskPast k ⊎ NoTask o (fields_of s) k)
  unfolding refusal Breaks
  bad_tasks = chain (says_place (answer_to d o s) 6 k (omega arith) (omega arith)) (chain (by_fields d o s lent (TasksAt (place_at k)) (omega arith)) (chain (by_six o (fields_of s) k) (beside (first_bad o 6 k (omega arith) (omega arith) (fields_of s) TaskPast (λ b f. record { only = broken o 6 b f; when = past_fault o b f })))))
