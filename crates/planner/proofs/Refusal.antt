-- When the planner refuses with 7.
use mathlib.Core.Path.{◌≡◌, refl, sym, ap, ◌∙◌}
use Rattle.std.specs.Prelude.{Option, None, Some, Ok, Err}
use Prim.Native.Nat.{ℕ, zero, suc, ◌+◌, ◌-◌, ◌<◌}
use native.Mathlib.Omega.{arith}
use Rattle.tasks.proofs.Answers.{accepted_not, refused_is}
use Rattle.tasks.proofs.Refusals.{refuses_is, refuses_make}
use Rattle.tasks.proofs.Tables.{table_number}
use Rattle.tasks.specs.Below.{sum}
use Rattle.tasks.specs.Refusals.{task, number, Refuses}
use Rattle.tasks.specs.Tables.{task_no, checked_table}
use Rattle.tasks.specs.Tables as table
use Rattle.tasks.specs.Answers.{Answer, Accepted, Refused}
use Rattle.tasks.specs.declared.Refusal.{Refusal}
use Rattle.tasks.specs.declared.Refusal.TheVariants.{NotPlaced}
use Rattle.tasks.specs.declared.Table.{Table}
use Rattle.tasks.specs.declared.Task.{Task}
use Rattle.tasks.specs.declared.TaskNo.{TaskNo}
use Rattle.plans.specs.Pieces.{task_of}
use Rattle.plans.specs.declared.Plan.{Plan}
use Rattle.planner.proofs.Keeps.{laid_stuck, lay_keeps}
use Rattle.planner.proofs.NoPlace.{Short, none_says, says_none}
use Rattle.planner.proofs.Offered.{table_kept}
use Rattle.planner.proofs.Placing.{lay_stuck, refused_not}
use Rattle.planner.proofs.Reached.{lay_ready}
use Rattle.planner.specs.Layout.{start, place, Laying, laid, stuck, or_stuck, then_place, lay_first, planned, answered}
use Rattle.planner.specs.NotPlaceable.{open_limit, NotPlaceable}
use Rattle.planner.specs.declared.Draft.{Draft}

-- the tasks before i are laid out, and then task i, of the first n, finds no place
record Stuck (s : Draft) (n i : ℕ) : Type 0 where
  below : i < n
  before : Draft
  lays : lay_first s i ≡ laid before
  fails : place before i ≡ None

-- a table is stuck at one task
stuck_is : {i k : ℕ} → stuck i ≡ stuck k → i ≡ k
stuck_is e = cc

-- a layout that is stuck at task i found no place for it after the tasks before it
lay_fails : (s : Draft) (n i : ℕ) → lay_first s n ≡ stuck i → Stuck s n i
unfolding lay_first
lay_fails s zero i e = laid_stuck e
lay_fails s (suc n) i e = go (lay_first s n) refl e (lay_fails s n i)
  where
    fails : (d : Draft) → lay_first s n ≡ laid d → (o : Option Draft) → place d n ≡ o → or_stuck n o ≡ stuck i → Stuck s (suc n) i
    fails d p (Some v) f q = laid_stuck q
    fails d p None f q =
        let k : n ≡ i = stuck_is q in
        record { below = omega arith; before = d; lays = rw (← k) p; fails = rw (← k) f }

    go : (l : Laying) → lay_first s n ≡ l → then_place n l ≡ stuck i → (lay_first s n ≡ stuck i → Stuck s n i) → Stuck s (suc n) i
    go (stuck k) p q ih = let r : Stuck s n i = ih (p ∙ q) in record { below = omega (arith, r.below); before = r.before; lays = r.lays; fails = r.fails }
    go (laid d) p q ih = fails d p _ refl q

-- a task that finds no place stops the layout
stuck_lay : (s : Draft) (n i : ℕ) → Stuck s n i → lay_first s n ≡ stuck i
stuck_lay s n i r =
    let e : i + 1 + (n - (i + 1)) ≡ n = omega (arith, r.below) in
    rw e at (lay_stuck s r.before i r.lays r.fails (n - (i + 1)))

-- the draft that is laid out before task i
module _ (t : Table) (good : checked_table t ≡ Accepted) (i : ℕ) (d : Draft) (below : i < t.count) (lays : lay_first (start t) i ≡ laid d) where
  -- it is over the table's cores
  over_cores : d.plan.cores ≡ t.cores
  unfolding start
  over_cores = (lay_keeps (start t) i d lays).cores

  -- task i is one of its tasks
  known : i < d.plan.count
  unfolding start
  known = omega (arith, (lay_keeps (start t) i d lays).count)

  -- and costs what it does in the table
  same_cost : (task_of d.plan i).cost ≡ (table.task_of t i).cost
  same_cost = ap (λ (k : Task). k.cost) (table_kept t good i d lays below)

  -- the limits are added up over the table's cores
  same_sum : sum d.plan.cores (open_limit d i) ≡ sum t.cores (open_limit d i)
  same_sum = ap (λ (n : ℕ). sum n (open_limit d i)) over_cores

  -- it finds no place, so it is not placeable
  not_placeable : place d i ≡ None → NotPlaceable t i
  not_placeable h =
      let s : Short d i (lay_ready t good i (omega arith) d lays) known = none_says d i (lay_ready t good i (omega arith) d lays) known h in
      record { below = below; before = d; lays = lays; whole = λ x l. s.0 x (omega (arith, over_cores)); short = omega (arith, s.1, same_cost, same_sum) }

-- it is not placeable, so it finds no place
no_place : (t : Table) → checked_table t ≡ Accepted → (i : ℕ) (n : NotPlaceable t i) → place n.before i ≡ None
no_place t good i n =
    let c : n.before.plan.cores ≡ t.cores = over_cores t good i n.before n.below n.lays in
    says_none n.before i (lay_ready t good i (omega (arith, n.below)) n.before n.lays) (known t good i n.before n.below n.lays)
    ((λ x l. n.whole x (omega (arith, c))), omega (arith, n.short, same_cost t good i n.before n.below n.lays, same_sum t good i n.before n.below n.lays))

-- refusal 7 tells one task
placed_is : {a b : TaskNo} → NotPlaced a ≡ NotPlaced b → a ≡ b
placed_is e = cc

-- a table is refused with 7, which tells task i, exactly if it is good and task i is not placeable
pub refused_by_seven : (t : Table) (i : ℕ) → (Refuses (answered (planned t)) 7 (task i) → (checked_table t ≡ Accepted) × NotPlaceable t i) × ((checked_table t ≡ Accepted) × NotPlaceable t i → Refuses (answered (planned t)) 7 (task i))
unfolding planned
refused_by_seven t i = ((λ u. says u _ refl _ refl), (λ w. refuses_make (NotPlaced (task_no i)) (refuses w.0 w.1)))
  where
    says : Refuses (answered (planned t)) 7 (task i) → (a : Answer) → checked_table t ≡ a → (l : Laying) → lay_first (start t) t.count ≡ l → (checked_table t ≡ Accepted) × NotPlaceable t i
    says u (Refused r) p l q =
        let e : r ≡ u.refusal = refused_is (rw p at u.answer) in
        absurd (omega (arith, table_number t.cores t.count (table.task_of t) r p, ap number e, u.numbered))
    says u Accepted p (laid d) q = accepted_not (sym (rw (p, q) at (refuses_is (NotPlaced (task_no i)) u)))
    says u Accepted p (stuck k) q =
        let e : task_no k ≡ task_no i = placed_is (refused_is (rw (p, q) at (refuses_is (NotPlaced (task_no i)) u))) in
        let s : Stuck (start t) t.count i = lay_fails (start t) t.count i (q ∙ ap (λ (n : TaskNo). stuck n.0) e) in
        (p, not_placeable t p i s.before s.below s.lays s.fails)

    refuses : checked_table t ≡ Accepted → NotPlaceable t i → answered (planned t) ≡ Refused (NotPlaced (task_no i))
    refuses good n = rw (good, stuck_lay (start t) t.count i (record { below = n.below; before = n.before; lays = n.lays; fails = no_place t good i n }))

-- a refused table gets no plan
pub refused_plan : (t : Table) (r : Refusal) (p : Plan) → planned t ≡ Err r → planned t ≡ Ok p → ⊥
refused_plan t r p h e = refused_not (sym h ∙ e)
