use Rattle.std.proofs.Common.{rules, ◌≡◌, ℕ, ◌+◌, length}
use mathlib.Core.Path.{ap, ◌∙◌}
use Rattle.plans.specs.Pieces.{piece_of}
use Rattle.bounds.specs.Bound.{bound}
use Rattle.bounds.proofs.Sums.{local_is}
use Rattle.bounds.proofs.Parts.{part_load}
use Rattle.bounds.proofs.bound_of.Goals as goal

pub returns : goal.returns
unfolding bound
returns c =
    let p = c.args.plan in
    let b = piece_of p c.args.q in
    let l : length p.pieces ≡ 128 = search rules in
    let e = local_is p c.args.q _ _ _ c.index.ensures.0 c.earlier.ensures c.saturating_sub-deadline.ensures in
    (e, rw (← e) (ap (λ (x : ℕ). b.cost + x) (c.load.ensures.0 ∙ part_load p c.requires.1 l b c.saturating_sub-deadline.result)))
