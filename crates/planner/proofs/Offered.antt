-- What a draft that the layout reaches offers the searches.
use Prim.Native.Nat.{ℕ, ◌≤◌, ◌<◌}
use Rattle.bounds.specs.Bound.{local_deadline}
use Rattle.planner.proofs.Drafts.{LaidBefore, start_task}
use Rattle.planner.proofs.Keeps.{lay_keeps}
use Rattle.planner.proofs.Put.{put_old, put_new}
use Rattle.planner.proofs.Reached.{lay_ready, lay_few, lay_moderate}
use Rattle.planner.specs.Layout.{start, laid, lay_first}
use Rattle.planner.specs.Whole.{put, whole_piece}
use Rattle.planner.specs.declared.Draft.{Draft}
use Rattle.plans.specs.Pieces.{task_of, piece_of, costs}
use Rattle.plans.specs.declared.Piece.{Piece}
use Rattle.plans.proofs.SamePlans.{costs_same}
use Rattle.plans.proofs.Shaped.{whole_first}
use Rattle.tasks.proofs.Tables.{GoodTable, Ranges, accepted_good}
use Rattle.tasks.specs.Tables as table
use Rattle.tasks.specs.Tables.{no_task, checked_table}
use Rattle.tasks.specs.Answers.{Accepted}
use Rattle.tasks.specs.declared.Table.{Table}
use mathlib.Core.Path.{◌≡◌}
use native.Mathlib.Decide.{ℕ_discrete}
use native.Mathlib.Omega.{arith}
use Rattle.planner.specs.Asked.{Ready, Alone}

-- with task i added whole, each whole piece is its task's first, so its local deadline is its task's deadline
pub ready_alone : (i : ℕ) (d : Draft) → LaidBefore i d → d.plan.placed < 128 → Alone d.plan i
unfolding put local_deadline
ready_alone i d D room x q h w = omega (arith, costs_same pc' pc n (put_old z d.plan) (pc' q).task.0 q (omega arith), none (ℕ_discrete q n))
  where
    n : ℕ
    n = d.plan.placed

    z : Piece
    z = whole_piece d.plan i x

    pc : ℕ → Piece
    pc = piece_of d.plan

    pc' : ℕ → Piece
    pc' = piece_of (put z d.plan)

    none : Dec (q ≡ n) → costs pc (pc' q).task.0 q ≡ 0
    none (yes e) = rw (e, put_new z d.plan (omega (arith, D.long))) (omega (arith, D.laid.left))
    none (no e) =
        let k : pc' q ≡ pc q = put_old z d.plan q (omega arith) in
        rw k (whole_first pc n D.laid.order q (omega arith) (rw k at w))

-- what a draft that the layout reaches offers the search for the next task
module _ (t : Table) (good : checked_table t ≡ Accepted) (i : ℕ) (d : Draft) (so_far : lay_first (start t) i ≡ laid d) (known : i < t.count) where
  -- its task i is the table's
  pub table_kept : task_of d.plan i ≡ table.task_of t i
  unfolding start
  table_kept = rw (lay_keeps (start t) i d so_far).tasks (start_task t good i known)

  pub offered : (d.plan.placed ≤ 80) × Ready d.plan i × Alone d.plan i
  unfolding start
  offered =
      let g : GoodTable t.cores t.count (table.task_of t) = accepted_good _ _ _ good in
      let v : Ranges (table.task_of t i) = g.values i known in (
        omega (arith, lay_few t good i (omega arith) d so_far, g.cores, g.tasks),
        record {
          moderate = lay_moderate t good i (omega arith) d so_far;
          known = omega (arith, g.tasks);
          some = rw table_kept v.some;
          fits = rw table_kept (omega (arith, v.short, v.inside));
          short = rw table_kept (omega (arith, v.inside, v.most));
          most = rw table_kept v.most;
          cores = omega (arith, g.cores, (lay_keeps (start t) i d so_far).cores);
        },
        ready_alone i d (lay_ready t good i (omega arith) d so_far) (omega (arith, lay_few t good i (omega arith) d so_far, g.cores, g.tasks)),
      )
