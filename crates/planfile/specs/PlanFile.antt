-- The plan file of a table file: the table is planned and its plan is written, or a refusal says why not.
use Rattle.std.specs.Prelude.{Result, Ok, Err, List, ℕ}
use Rattle.tasks.specs.declared.Refusal.{Refusal}
use Rattle.tasks.specs.declared.Table.{Table}
use Rattle.planner.specs.Layout.{planned}
use Rattle.writing.specs.Writing.{plan_written, plan_filled}

-- a refusal, or what is written
abbrev pub unless_refused : {A : Type 0} → Result A Refusal → (A → Result ℕ Refusal) → Result ℕ Refusal
unless_refused (Err x) written = Err x
unless_refused (Ok a) written = written a

-- the lent bytes as they were, or as they are after writing
abbrev pub kept_if_refused : {A : Type 0} → Result A Refusal → List ℕ → (A → List ℕ) → List ℕ
kept_if_refused (Err x) lent filled = lent
kept_if_refused (Ok a) lent filled = filled a

-- the file's refusal, the planner's, or the writer's answer
unfoldable pub file_written : Result Table Refusal → List ℕ → Result ℕ Refusal
file_written r lent = unless_refused r (λ t. unless_refused (planned t) (λ p. plan_written p lent))

-- the lent bytes then
unfoldable pub file_filled : Result Table Refusal → List ℕ → List ℕ
file_filled r lent = kept_if_refused r lent (λ t. kept_if_refused (planned t) lent (λ p. plan_filled p lent))

-- the most bytes that a plan file can have: core count, 64 tasks, 128 pieces
abbrev pub file_most : ℕ
file_most = 2244
