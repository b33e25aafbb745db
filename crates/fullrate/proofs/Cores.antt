-- Whether a task ran on one of the first cores, as the list of what ran tells.
use mathlib.Core.Path.{◌≡◌, refl, ◌∙◌}
use mathlib.Core.Bool.{Bool}
use Prim.Native.Nat.{ℕ, zero, suc, ◌≤◌, min}
use native.Mathlib.Numerals.{add-one}
use native.Mathlib.Omega.{arith}
use lib.ListN.{length, get_or, take}
use Rattle.std.specs.Prelude.{List}
use Rattle.std.specs.List.{list_any}
use Rattle.std.specs.Option.{option_eq}
use Rattle.std.proofs.lemmas.List.Folds.{list_any_more}
use Rattle.tasks.specs.Below.{any}
use Rattle.tasks.specs.declared.TaskNo.{TaskNo}
use Rattle.tasks.specs.contracts.TaskNoPartialEq.TheImpl.{eq-value}
use Rattle.tasks.proofs.Below.{any_same}
use Rattle.jobs.specs.Jobs.{Runner, Runs, no_run}
use Rattle.dispatch.proofs.Reading.{named}
use Rattle.fullrate.specs.Watched.{ran_in}

-- any of the first n entries of a list
any_taken : {A : Type 0} (p : A → Bool) (xs : List A) (d : A) (n : ℕ) → n ≤ length xs → list_any p (take n xs) ≡ any n (λ k. p (get_or xs k d))
unfolding any
any_taken p xs d zero l = refl
any_taken p xs d (suc n) l = rw add-one at (list_any_more p xs n d (omega arith)) ∙ rw (any_taken p xs d n (omega arith))

pub ran_read : (cores n : ℕ) (runs : List Runner) (t : TaskNo) → length runs ≡ 16 → n ≡ min cores 16 → list_any (λ r. option_eq eq-value.it r (Runs t)) (take n runs) ≡ ran_in cores runs t.0
ran_read cores n runs t size e = rw e (any_taken _ runs no_run (min cores 16) (omega (arith, size)) ∙ any_same (min cores 16) _ _ (λ x l. named (get_or runs x no_run) t))
