-- The contract of `step` settles its result and the lent record, and the law of `Ran::from` its result; on a refusal the record is as it was and nothing runs.
use mathlib.Core.Path.{◌≡◌, sym, ◌∙◌, ap}
use lib.ListN.{replicate}
use Rattle.tasks.specs.Answers.{Refused}
use Rattle.tasks.specs.declared.Refusal.{Refusal}
use Rattle.tasks.proofs.Settling.{settled}
use Rattle.plans.specs.declared.Plan.{Plan}
use Rattle.jobs.specs.Jobs.{no_run}
use Rattle.dispatch.specs.Tick.{tick}
use Rattle.dispatch.specs.declared.State.{State}
use Rattle.dispatch.specs.declared.Ticked.{Ticked}
use Rattle.jobs.specs.declared.Tasks.{Tasks}
use Rattle.dispatch.proofs.Kept.{refused_nothing}
use Rattle.board.specs.Ran.{ran_of}
use Rattle.board.specs.declared.Ran.{Ran}

module _ (p : Plan) (s : State) (fs rs : Tasks) where
  -- what `step` ensures: r is answered, and the record is n at exit
  abbrev pub Stepped : Ran → State → Type 0
  Stepped r n = (r ≡ ran_of (tick p s fs rs)) × (n ≡ (tick p s fs rs).state)

  pub step_settled : (r r' : Ran) (n n' : State) → Stepped r n → Stepped r' n' → (r ≡ r') × (n ≡ n')
  step_settled r r' n n' h h' = (settled h.0 h'.0, settled h.1 h'.1)

  pub refused_stays : (r : Ran) (n : State) (x : Refusal) → Stepped r n → r.answer ≡ Refused x → (n ≡ s) × (r.runs ≡ replicate 16 no_run)
  refused_stays r n x h e =
      let said = refused_nothing p s fs rs x (sym (ap (λ (u : Ran). u.answer) h.0) ∙ e) in
      (h.1 ∙ said.0, ap (λ (u : Ran). u.runs) h.0 ∙ said.1)

-- what `Ran::from` gives, by its law
pub from_settled : (t : Ticked) (r r' : Ran) → r ≡ ran_of t → r' ≡ ran_of t → r ≡ r'
from_settled t r r' h h' = settled h h'
