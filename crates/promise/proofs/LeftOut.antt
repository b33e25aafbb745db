-- A refused request left out of a list changes no state, no later answer and no count.
use mathlib.Core.Path.{◌≡◌, refl, sym, ap, ◌∙◌}
use mathlib.Core.Bool.{Bool, false, ◌&&◌, cond}
use mathlib.Core.List.{List, [], ◌∷◌, ◌++◌}
use Prim.Native.Nat.{ℕ, ◌+◌}
use native.Mathlib.Omega.{arith}
use Rattle.tasks.proofs.Bools.{clash}
use Rattle.plans.specs.declared.Plan.{Plan}
use Rattle.dispatch.specs.States.{fresh_state}
use Rattle.dispatch.specs.declared.State.{State}
use Rattle.dispatch.specs.declared.Ticked.{Ticked}
use Rattle.promise.proofs.Runs.{by_answer, after_append}
use Rattle.promise.specs.Requests.{Request, asked, is_accepted, accepts, after, reached, tally}
use Rattle.promise.specs.TooSoon.{ChangesNothing}

-- a refused request leaves the state
refused_state : (p : Plan) (s : State) (q : Request) → accepts p s q ≡ false → (asked p s q).state ≡ s
refused_state p s q = by_answer p s q (λ t. is_accepted t.answer ≡ false → t.state ≡ s) (λ ok h. clash refl h) (λ r h. refl)

-- counts of two lists in a row add up
tally_append : (f : Request → Ticked → Bool) (p : Plan) (s : State) (a b : List Request) → tally f p s (a ++ b) ≡ tally f p s a + tally f p (after p s a) b
unfolding tally after
tally_append f p s [] b = omega arith
tally_append f p s (q ∷ a) b = omega (arith, tally_append f p (asked p s q).state a b)

-- a refused request first counts for nothing
tally_skip : (f : Request → Ticked → Bool) (p : Plan) (s : State) (q : Request) (b : List Request) → accepts p s q ≡ false → tally f p s (q ∷ b) ≡ tally f p s b
unfolding tally
tally_skip f p s q b = by_answer p s q (λ t. is_accepted t.answer ≡ false → cond (is_accepted t.answer && f q t) 1 0 + tally f p t.state b ≡ tally f p s b) (λ ok h. clash refl h) (λ r h. omega arith)

-- nothing changes where a refused request is left out
pub left_out : (p : Plan) (before : List Request) (q : Request) (later : List Request) → accepts p (reached p before) q ≡ false → ChangesNothing p before q later
unfolding after
left_out p before q later refused = record {
  state = same;
  answer = λ r. ap (λ (u : State). asked p u r) same;
  count = λ f. tally_append f p fresh_state before (q ∷ later) ∙ ap (λ (n : ℕ). tally f p fresh_state before + n) (tally_skip f p (reached p before) q later refused) ∙ sym (tally_append f p fresh_state before later);
}
  where
    same : reached p (before ++ q ∷ later) ≡ reached p (before ++ later)
    same = after_append p fresh_state before (q ∷ later) ∙ ap (λ (u : State). after p u later) (refused_state p (reached p before) q refused) ∙ sym (after_append p fresh_state before later)
