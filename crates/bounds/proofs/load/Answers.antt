use Rattle.std.proofs.Common.{arith, ◌≡◌, ◌+◌, length}
use mathlib.Core.Path.{sym}
use mathlib.Core.Bool.{cond}
use Rattle.plans.specs.Interference.{interference}
use Rattle.plans.specs.Pieces.{task_of, piece_of}
use Rattle.plans.specs.Rank.{above}
use Rattle.bounds.specs.Leaves.{listed}
use Rattle.bounds.proofs.Sums.{load_none, load_turn, load_small}
use Rattle.bounds.proofs.load.Goals as goal

-- what a turn adds is the interference of the piece that it looks at
pressed : (c : goal.After-pressure-load) → let w = listed c.args.tasks.now c.args.pieces.now in
    let z = piece_of w c.loop-z.z-index in
    c.pressure-load.result ≡ cond (above (task_of w) z c.args.b) (interference z.cost (task_of w z.task.0).period c.args.l) 0
unfolding above
pressed c = rw (c.index-in-loop-z.ensures.0, c.index.ensures.0) at c.pressure-load.ensures

pub loop-z-init : goal.loop-z-init
loop-z-init c = sym (load_none _ _ _ _)

pub overflow_add-load : goal.overflow_add-load
overflow_add-load c =
    let w = listed c.args.tasks.now c.args.pieces.now in
    omega (arith, load_turn (task_of w) (piece_of w) _ _ _ _ _ c.loop-z.invariant (pressed c), load_small w c.requires.2 c.args.b c.args.l (c.loop-z.z-index + 1) c.requires.1 (omega arith), c.requires.2.few)

pub loop-z-preserved : goal.loop-z-preserved
loop-z-preserved c = load_turn _ _ _ _ _ _ _ c.loop-z.invariant (pressed c)

pub returns : goal.returns
returns c =
    let w = listed c.args.tasks.now c.args.pieces.now in
    let n : c.loop-z.z-index ≡ length c.args.pieces.now = omega arith in
    (rw n at c.loop-z.invariant, omega (arith, c.loop-z.invariant, load_small w c.requires.2 c.args.b c.args.l c.loop-z.z-index c.requires.1 (omega arith), c.requires.2.few))
