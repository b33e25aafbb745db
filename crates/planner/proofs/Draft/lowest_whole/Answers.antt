use borrow.Author.Rules.{rules}
use native.Mathlib.Omega.{arith}
use native.Mathlib.Nat.{le_refl}
use mathlib.Core.Path.{◌≡◌, refl, sym, ap, ◌∙◌, subst}
use mathlib.Core.Bool.{Bool}
use lib.ListN.{length}
use borrow.Author.Count.{below_more}
use borrow.Author.Tests.{lt-ltb, le-ltb}
use Rattle.tasks.specs.Below.{all}
use Rattle.tasks.specs.Tables.{core_no}
use Rattle.tasks.proofs.Below.{any_none, first_is, first_none}
use Rattle.bounds.specs.Leaves.{Moderate}
use Rattle.plans.specs.Pieces.{task_of}
use Rattle.plans.specs.declared.Kind.TheVariants.{Whole}
use Rattle.plans.specs.declared.Piece.{Piece}
use Rattle.plans.specs.declared.Plan.{Plan}
use Rattle.planner.specs.Asked.{OwnDeadlines, taker}
use Rattle.planner.specs.Whole.{put, whole_piece, keeps_bound, takes_whole}
use Rattle.planner.proofs.Putting.{stays_moderate}
use Rattle.planner.proofs.Trying.{holding, holding_last}
use Rattle.planner.proofs.Draft.lowest_whole.Goals as goal

-- the piece that is tried on a core
abbrev tried : (c : goal.After-w-in-loop-x-1) → Piece
tried c = record { task = c.args.task; core = core_no c.loop-x.x; kind = Whole; cost = (task_of c.args.self.plan c.index.result).cost }

-- the working copy is the plan with the task added whole
added : (c : goal.After-w-in-loop-x-1) → let p = c.args.self.plan in holding c.loop-x.w p.placed (tried c) ≡ put (whole_piece p c.args.task.0 c.loop-x.x) p
unfolding put
added c = c.loop-x.invariant.0 _ ∙ rw c.index.ensures.0

-- what the core says
taken : (c : goal.After-w-in-loop-x-1) (r : Bool) → let v = holding c.loop-x.w c.args.self.plan.placed (tried c) in
    r ≡ all v.placed (keeps_bound v c.loop-x.x) → r ≡ takes_whole c.args.self c.args.task.0 c.loop-x.x
unfolding takes_whole
taken c r e = e ∙ ap (λ (v : Plan). all v.placed (keeps_bound v c.loop-x.x)) (added c) ∙ rw c.if-self-x.false

pub loop-x-preserved-then-self-x : goal.loop-x-preserved-then-self-x
unfolding takes_whole
loop-x-preserved-then-self-x c = (c.loop-x.invariant.0, below_more _ _ c.loop-x.invariant.1 (rw c.if-self-x.true))

pub all_keep-requires : goal.all_keep-requires
all_keep-requires c =
    let p = c.args.self.plan in
    let l : length p.pieces ≡ 128 = search rules in
    subst (λ (v : Plan). Moderate v × OwnDeadlines v) (sym (added c)) (stays_moderate _ p c.args.task.0 l (omega arith) c.requires.1 refl (le_refl _), c.requires.2 c.loop-x.x)

pub returns-then-all_keep : goal.returns-then-all_keep
returns-then-all_keep c =
    let m = c.args.self.plan.cores in
    sym (ap (taker m) (first_is m _ c.loop-x.x (omega arith) (sym (taken c.before.before _ c.all_keep.ensures) ∙ c.if-all_keep.true) c.loop-x.invariant.1) ∙ rw (lt-ltb c.loop-x.x m (omega arith)))

pub loop-x-preserved : goal.loop-x-preserved
loop-x-preserved c =
    ((λ z. holding_last c.loop-x.w _ _ z ∙ c.loop-x.invariant.0 z), below_more _ _ c.loop-x.invariant.1 (sym (taken c.before.before _ c.all_keep.ensures) ∙ c.if-all_keep.false))

pub returns : goal.returns
returns c =
    let m = c.args.self.plan.cores in
    sym (ap (taker m) (first_none m _ (any_none m _ (λ k h. c.loop-x.invariant.1 k (omega arith)))) ∙ rw (le-ltb m m (le_refl m)))
