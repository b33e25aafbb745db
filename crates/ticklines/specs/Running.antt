-- What the runner prints, byte for byte.
use Rattle.std.specs.Prelude.{Result, List, ◌++◌, ℕ}
use Rattle.tasks.specs.Below.{row}
use Rattle.tasks.specs.declared.Refusal.{Refusal}
use Rattle.plans.specs.declared.Plan.{Plan}
use Rattle.fullrate.specs.FullRate.{full_tick, state_after}
use Rattle.ticklines.specs.Lines.{ticked_text, totals_text}
use Rattle.texts.specs.Telling.{answer_text}

-- n ticks with every task released as soon as allowed and no finishes: each tick is one line, and a last line gives the totals
unfoldable pub run_text : Plan → ℕ → List ℕ
run_text p n = row n (λ k. ticked_text p.cores (full_tick p (state_after p k))) ++ totals_text (state_after p n)

-- the second program makes 20 ticks
abbrev pub runner_program_text : Result Plan Refusal → List ℕ
runner_program_text r = answer_text r (λ p. run_text p 20)

-- the most bytes that it prints: 20 lines and the totals
abbrev pub runner_most : ℕ
runner_most = 6799
