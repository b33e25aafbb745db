-- A layout keeps the table's cores, count and tasks throughout.
use Rattle.std.proofs.lemmas.Option.{none-some, same_Some}
use mathlib.Core.Path.{◌≡◌, refl, sym, ap, ◌∙◌, subst}
use mathlib.Core.Bool.{Bool, true, false}
use Rattle.std.specs.Prelude.{Option, None, Some}
use Prim.Native.Nat.{ℕ, zero, suc, ◌+◌}
use native.Mathlib.Omega.{arith}
use Rattle.tasks.specs.Below.{any, first}
use Rattle.plans.specs.Pieces.{task_of}
use Rattle.plans.specs.declared.Plan.{Plan}
use Rattle.planner.specs.Layout.{place, lay_first, Laying, laid, stuck, or_stuck, then_place}
use Rattle.planner.specs.Shared.{give_share, close, share_from}
use Rattle.planner.specs.Whole.{put, whole_piece, takes_whole}
use Rattle.planner.specs.declared.Draft.{Draft}
use Rattle.planner.proofs.Sharing.{Turn, skip, part, fill, fit, turn, most}

-- plan b is over a's cores and tasks
pub record Keeps (a b : Plan) : Type 0 where
  pub cores : b.cores ≡ a.cores
  pub count : b.count ≡ a.count
  pub tasks : b.tasks ≡ a.tasks

keeps_same : (a : Plan) → Keeps a a
keeps_same a = record { cores = refl; count = refl; tasks = refl }

pub share_keeps : (i f x need : ℕ) (d v : Draft) → share_from d i need x f ≡ Some v → Keeps d.plan v.plan
unfolding share_from close give_share put
share_keeps i zero x need d v e = absurd (none-some _ e)
share_keeps i (suc f) x need d v e = go (turn d i need x f) (share_keeps i f (x + 1))
  where
    go : Turn d i need x f → ((need : ℕ) (d v : Draft) → share_from d i need (x + 1) f ≡ Some v → Keeps d.plan v.plan) → Keeps d.plan v.plan
    go (skip t) ih = ih need d v (rw t at e)
    go (part free positive less t) ih = let k : Keeps (close (give_share d i x (most d i need x f)) x).plan v.plan = ih _ _ v (rw t at e) in record { cores = k.cores; count = k.count; tasks = k.tasks }
    go (fill free positive same t) ih = subst (λ (u : Draft). Keeps d.plan u.plan) (same_Some _ _ (rw t at e)) (record { cores = refl; count = refl; tasks = refl })
    go (fit free more t) ih = subst (λ (u : Draft). Keeps d.plan u.plan) (same_Some _ _ (rw t at e)) (record { cores = refl; count = refl; tasks = refl })

-- what a task that finds a place does: it goes whole to the lowest core that takes it, or else is shared
module _ (d : Draft) (i : ℕ) where
  pub place_whole : any d.plan.cores (takes_whole d i) ≡ true → place d i ≡ Some (record { plan = put (whole_piece d.plan i (first d.plan.cores (takes_whole d i))) d.plan; closed = d.closed })
  unfolding place
  place_whole h = rw h

  pub place_shared : any d.plan.cores (takes_whole d i) ≡ false → place d i ≡ share_from d i (task_of d.plan i).cost 0 d.plan.cores
  unfolding place
  place_shared h = rw h

pub place_keeps : (d : Draft) (i : ℕ) (v : Draft) → place d i ≡ Some v → Keeps d.plan v.plan
unfolding put
place_keeps d i v e = go _ refl
  where
    go : (b : Bool) → any d.plan.cores (takes_whole d i) ≡ b → Keeps d.plan v.plan
    go true a = subst (λ (u : Draft). Keeps d.plan u.plan) (same_Some _ _ (sym (place_whole d i a) ∙ e)) (record { cores = refl; count = refl; tasks = refl })
    go false a = share_keeps i d.plan.cores 0 (task_of d.plan i).cost d v (sym (place_shared d i a) ∙ e)

-- a layout of one task more is a layout of those before it and a place for that task
pub record Placed (s : Draft) (i : ℕ) (v : Draft) : Type 0 where
  pub before : Draft
  pub lays : lay_first s i ≡ laid before
  pub finds : place before i ≡ Some v

pub laid_is : {u v : Draft} → laid u ≡ laid v → u ≡ v
laid_is e = cc

pub laid_stuck : {A : Type 0} {v : Draft} {k : ℕ} → laid v ≡ stuck k → A
laid_stuck e = let z : ◌≡◌ {A = ℕ} 0 1 = cc in absurd (omega arith)

pub lay_last : (s : Draft) (i : ℕ) (v : Draft) → lay_first s (suc i) ≡ laid v → Placed s i v
unfolding lay_first
lay_last s i v e = go (lay_first s i) refl e
  where
    finds : (d : Draft) (o : Option Draft) → place d i ≡ o → or_stuck i o ≡ laid v → place d i ≡ Some v
    finds d None p q = laid_stuck (sym q)
    finds d (Some u) p q = p ∙ ap Some (laid_is q)

    go : (l : Laying) → lay_first s i ≡ l → then_place i l ≡ laid v → Placed s i v
    go (stuck k) p q = laid_stuck (sym q)
    go (laid d) p q = record { before = d; lays = p; finds = finds d _ refl q }

pub lay_keeps : (s : Draft) (i : ℕ) (v : Draft) → lay_first s i ≡ laid v → Keeps s.plan v.plan
unfolding lay_first
lay_keeps s zero v e = subst (λ (u : Draft). Keeps s.plan u.plan) (laid_is e) (keeps_same s.plan)
lay_keeps s (suc i) v e =
    let p : Placed s i v = lay_last s i v e in
    let a : Keeps s.plan p.before.plan = lay_keeps s i p.before p.lays in
    let b : Keeps p.before.plan v.plan = place_keeps p.before i v p.finds in
    record { cores = b.cores ∙ a.cores; count = b.count ∙ a.count; tasks = b.tasks ∙ a.tasks }
