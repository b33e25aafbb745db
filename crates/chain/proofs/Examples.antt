-- The chain speaks of real files: the table file of document 01's P3, whose third task is shared over both cores.
use mathlib.Core.Path.{◌≡◌, refl}
use mathlib.Core.Bool.{true}
use mathlib.Core.List.{List, [], ◌∷◌, ◌++◌}
use Prim.Native.Nat.{ℕ, ◌≤◌, ◌<◌}
use native.Mathlib.Decide.{dec_lt}
use native.Mathlib.Omega.{arith}
use lib.Dec.{ltb}
use lib.ListN.{length, get_or, get_or-eq_default}
use borrow.Author.Tests.{ltb-true}
use Rattle.tasks.proofs.Below.{all_each}
use Rattle.tasks.specs.Below.{all, any, first, sum, tabulate, padded}
use Rattle.tasks.specs.Places.{further}
use Rattle.std.specs.Prelude.{Ok, replicate}
use Rattle.tasks.specs.Tables.{checked_tasks, no_task, task_no, core_no}
use Rattle.tasks.specs.declared.Table.{Table}
use Rattle.plans.specs.Pieces.{no_piece, costs}
use Rattle.plans.specs.declared.Kind.{Kind}
use Rattle.plans.specs.declared.Kind.TheVariants.{Whole, Share}
use Rattle.plans.specs.declared.Piece.{Piece}
use Rattle.plans.specs.declared.Plan.{Plan}
use Rattle.plans.specs.Interference.{interference, periods}
use Rattle.plans.specs.Rank.{above}
use Rattle.bounds.specs.Bound.{local_deadline, load, bound}
use Rattle.planner.specs.Layout.{start, place, lay_first, planned}
use Rattle.planner.specs.Limit.{allowance, limit_of}
use Rattle.planner.specs.Shared.{give_share, close, share_from}
use Rattle.planner.specs.Whole.{put, takes_whole}
use Rattle.files.specs.Fields.{tag_fits, verdict, hold, piece_taken, next_field, added, step, read}
use Rattle.files.specs.Files.{table_read}
use Rattle.files.specs.Grammar.{refusal, values_fault}
use Rattle.files.specs.declared.Default.TheVariants.{Eight}
use Rattle.files.specs.Reading.{ended, table_ended, table_closed}
use Rattle.trips.proofs.Files.{Slice}
use Rattle.chain.specs.Served.{Served}
use Rattle.chain.proofs.Chain.{bytes_to_deadlines}

-- a task field (6,10,10)
abbrev six : List ℕ
six = 2 ∷ 0 ∷ 12 ∷ 0 ∷ 0 ∷ 0 ∷ 6 ∷ 0 ∷ 0 ∷ 0 ∷ 10 ∷ 0 ∷ 0 ∷ 0 ∷ 10 ∷ []

-- two cores, and three of them
abbrev three : List ℕ
three = 1 ∷ 0 ∷ 1 ∷ 2 ∷ (six ++ (six ++ six))

-- each is a byte
bytes : all (length three) (λ i. ltb (get_or three i 0) 256) ≡ true
unfolding all
bytes = refl

-- they are a lent slice
lent : Slice three
lent = record { small = λ i. go i (dec_lt i (length three)); most = omega arith }
  where
    go : (i : ℕ) → Dec (i < length three) → get_or three i 0 < 256
    go i (yes l) = ltb-true (get_or three i 0) 256 (all_each (length three) (λ i. ltb (get_or three i 0) 256) bytes i l)
    go i (no l) = let past : length three ≤ i = omega arith in omega (arith, get_or-eq_default three 0 past)

-- the table that they hold
abbrev three_table : Table
three_table = record { cores = 2; count = 3; tasks = padded 64 3 no_task (λ i. record { cost = 6; deadline = 10; period = 10 }) }

abbrev three_piece : ℕ → Kind → ℕ → ℕ → Piece
three_piece i k x e = record { task = task_no i; core = core_no x; kind = k; cost = e }

-- and the planner's plan for it
abbrev three_plan : Plan
three_plan = record {
  cores = 2;
  count = 3;
  tasks = three_table.tasks;
  placed = 4;
  pieces = three_piece 0 Whole 0 6 ∷ three_piece 1 Whole 1 6 ∷ three_piece 2 Share 0 4 ∷ three_piece 2 Share 1 2 ∷ replicate 124 no_piece;
}

-- they are read as that table
three_read : table_read Eight three ≡ Ok three_table
unfolding table_read table_closed table_ended read step verdict hold tag_fits values_fault piece_taken next_field added further ended refusal checked_tasks padded tabulate any first
three_read = refl

-- the table is planned so
three_planned : planned three_table ≡ Ok three_plan
unfolding planned start lay_first place takes_whole share_from give_share close put limit_of allowance bound load local_deadline costs interference periods above all any first sum padded tabulate checked_tasks
three_planned = refl

-- so the chain holds of them
pub three_served : Served Eight three three_table three_plan
three_served = bytes_to_deadlines Eight three three_table three_plan lent three_read three_planned
