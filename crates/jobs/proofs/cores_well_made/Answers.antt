use mathlib.Core.Bool.{Bool, false}
use mathlib.Core.Path.{◌≡◌, refl, sym, ◌∙◌}
use Prim.Native.Nat.{ℕ, min}
use native.Mathlib.Omega.{arith}
use lib.ListN.{length, get_or}
use borrow.Author.Rules.{rules}
use Rattle.tasks.proofs.Tabulate.{tabulate_start}
use Rattle.tasks.specs.Below.{all, any}
use Rattle.jobs.specs.Jobs.{no_run, names, Idle}
use Rattle.jobs.proofs.Walks.{marks_turn, marks_stay, tabulated}
use Rattle.tasks.proofs.Bools.{and_true}
use Rattle.jobs.proofs.Runners.{idle_else}
use Rattle.jobs.proofs.Making.{all_turn, core_says, core_idle, cores_read}
use Rattle.jobs.proofs.cores_well_made.Goals as goal
use Rattle.jobs.proofs.cores_well_made.Goals.{in-Some, in_default}

pub loop-x-init : goal.loop-x-init
unfolding all any
loop-x-init c = (search rules, tabulate_start 256 false _ (λ i l. refl), λ p e. refl)

pub loop-x-preserved : goal.loop-x-preserved
loop-x-preserved c =
    let l : length c.args.jobs ≡ 64 = c.well_formed.1.0.1.0.1 in
    let ran : ℕ → ℕ → Bool = λ y t. names t (get_or c.args.last y no_run) in
    elim c.match-ran.branch [
      | in-Some w ↦
          let seen = tabulated 256 (λ k. any c.loop-x.x (λ y. ran y k)) c.loop-x.seen w.index-t.result false c.loop-x.invariant.1 w.index-t.ensures.1 in (
            search rules,
            w.seen-is ∙ marks_turn 256 ran _ c.loop-x.x w.index-t.result c.loop-x.invariant.1 (λ i. rw (w.in-Some.is, w.index-t.ensures.0)) w.index-t.ensures.1,
            λ p e. w.good-is ∙ all_turn _ _ _ _ (c.loop-x.invariant.2 p e) (rw w.index-t.ensures.0 (core_says p c.args.jobs c.args.last c.loop-x.x _ _ w.in-Some.task _ _ l w.in-Some.is e (rw (← w.index-t.ensures.0) w.min.ensures) w.once_released-released.ensures (rw (← w.index-t.ensures.0) seen))),
          )
      | in_default w ↦
          let none : get_or c.args.last c.loop-x.x no_run ≡ Idle = idle_else _ w.in_default.not-Some in (
            search rules,
            w.seen-is ∙ marks_stay 256 ran _ c.loop-x.x c.loop-x.invariant.1 (λ i. rw none),
            λ p e. w.good-is ∙ sym (and_true c.loop-x.good) ∙ all_turn _ _ _ _ (c.loop-x.invariant.2 p e) (sym (core_idle p c.args.jobs c.args.last c.loop-x.x none)),
          )
    ]

pub returns : goal.returns
returns c =
    let l : length c.args.last ≡ 16 = c.well_formed.1.1.0.1.0.1 in
    let e : c.loop-x.x ≡ min c.args.plan.cores 16 = omega (arith, c.min-x-end.ensures, c.loop-x.auto.x-end) in
    rw (c.loop-x.invariant.2 c.args.plan c.min-count.ensures, e) (cores_read c.args.plan c.args.jobs c.args.last l)
