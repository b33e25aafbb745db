-- Sharing runs out of cores exactly if the limits of the open cores, as they stand before it, add up to less than the need.
use Rattle.std.proofs.lemmas.Option.{none-some}
use mathlib.Core.Path.{◌≡◌, refl, sym, ap, ◌∙◌}
use mathlib.Core.Logic.{◌⊎◌, inl, inr}
use mathlib.Core.Bool.{Bool, true, false, ◌||◌, cond}
use Rattle.std.specs.Prelude.{None, Some}
use Prim.Native.Nat.{ℕ, zero, suc, ◌+◌, ◌-◌, ◌≤◌, ◌<◌}
use native.Mathlib.Numerals.{add-one}
use native.Mathlib.Omega.{arith}
use lib.Dec.{ltb, eqb}
use lib.ListN.{length}
use lib.Seq.{get_or-set_other}
use borrow.Author.Tests.{eqb-true, ltb-true, ltb-false}
use Rattle.tasks.proofs.Bools.{one_of, neither}
use Rattle.tasks.specs.Below.{sum}
use Rattle.plans.specs.Pieces.{task_of}
use Rattle.planner.proofs.OtherCores.{limit_kept}
use Rattle.planner.proofs.Put.{put_length}
use Rattle.planner.specs.Limit.{limit}
use Rattle.planner.specs.NotPlaceable.{open_limit}
use Rattle.planner.specs.Shared.{share_piece, give_share, close, share_from}
use Rattle.planner.specs.Whole.{put, is_closed}
use Rattle.planner.specs.declared.Draft.{Draft}

-- the limits of the open ones among f cores from x on
unfoldable rooms : Draft → ℕ → ℕ → ℕ → ℕ
rooms d i x zero = 0
rooms d i x (suc f) = open_limit d i x + rooms d i (x + 1) f

-- they are the rest of the sum
rooms_sum : (d : Draft) (i f x : ℕ) → sum x (open_limit d i) + rooms d i x f ≡ sum (x + f) (open_limit d i)
unfolding rooms sum
rooms_sum d i zero x = let e : x + 0 ≡ x = omega arith in omega (arith, ap (λ (n : ℕ). sum n (open_limit d i)) e)
rooms_sum d i (suc f) x = go (rooms_sum d i f (x + 1))
  where
    a : sum (x + 1) (open_limit d i) ≡ sum x (open_limit d i) + open_limit d i x
    a = ap (λ (n : ℕ). sum n (open_limit d i)) (add-one x)

    b : sum (x + 1 + f) (open_limit d i) ≡ sum (x + suc f) (open_limit d i)
    b = let e : x + 1 + f ≡ x + suc f = omega arith in ap (λ (n : ℕ). sum n (open_limit d i)) e

    go : sum (x + 1) (open_limit d i) + rooms d i (x + 1) f ≡ sum (x + 1 + f) (open_limit d i) → sum x (open_limit d i) + (open_limit d i x + rooms d i (x + 1) f) ≡ sum (x + suc f) (open_limit d i)
    go h = omega (arith, a, b, h)

-- a share on core x, which is then closed, leaves the room of the others
room_kept : (d : Draft) (i x y size : ℕ) → d.plan.placed < length d.plan.pieces → (y ≡ x → ⊥) → open_limit (close (give_share d i x size) x) i y ≡ open_limit d i y
unfolding close give_share put
room_kept d i x y size h away =
    let a : is_closed (close (give_share d i x size) x).closed y ≡ is_closed d.closed y = get_or-set_other d.closed x y true false away in
    let b : limit (put (share_piece i x size) d.plan) (task_of d.plan i).period y ≡ limit d.plan (task_of d.plan i).period y = limit_kept (share_piece i x size) d.plan h (task_of d.plan i).period y away in
    ap (λ (c : Bool). cond c 0 (limit (put (share_piece i x size) d.plan) (task_of d.plan i).period y)) a ∙ ap (λ (l : ℕ). cond (is_closed d.closed y) 0 l) b

-- the same room on each core is the same room together
rooms_kept : (d e : Draft) (i f x : ℕ) → ((y : ℕ) → x ≤ y → open_limit e i y ≡ open_limit d i y) → rooms e i x f ≡ rooms d i x f
unfolding rooms
rooms_kept d e i zero x h = refl
rooms_kept d e i (suc f) x h = rw (h x (omega arith), rooms_kept d e i f (x + 1) (λ y l. h y (omega arith)))

-- a core that is skipped has no room, and an open one that of its limit
skipped : (c : Bool) (l : ℕ) → (c ≡ true) ⊎ (eqb l 0 ≡ true) → cond c 0 l ≡ 0
skipped true l h = refl
skipped false l (inl h) = let z : ◌≡◌ {A = ℕ} 0 1 = cc in absurd (omega arith)
skipped false l (inr h) = eqb-true l 0 h

-- the cores run out exactly if they have less room than is needed
abbrev Out : Draft → ℕ → ℕ → ℕ → ℕ → Type 0
Out d i need x f = (share_from d i need x f ≡ None → rooms d i x f < need) × (rooms d i x f < need → share_from d i need x f ≡ None)

-- core by core, for any draft
runs_out : (i f x need : ℕ) (d : Draft) → length d.plan.pieces ≡ 128 → d.plan.placed + f ≤ 128 → 1 ≤ need → Out d i need x f
unfolding share_from rooms close give_share put
runs_out i zero x need d long few needed = ((λ e. omega arith), (λ l. refl))
runs_out i (suc f) x need d long few needed = go _ _ _ refl refl refl (runs_out i f (x + 1))
  where
    most : ℕ
    most = limit d.plan (task_of d.plan i).period x

    next : Draft
    next = close (give_share d i x most) x

    kept : rooms next i (x + 1) f ≡ rooms d i (x + 1) f
    kept = rooms_kept d next i f (x + 1) (λ y l. room_kept d i x y most (omega arith) (λ e. omega arith))

    whole : is_closed d.closed x || eqb most 0 ≡ false → open_limit d i x ≡ most
    whole p = let free : is_closed d.closed x ≡ false = (neither {a = is_closed d.closed x} p).0 in rw free

    found : (v : Draft) → share_from d i need x (suc f) ≡ Some v → need ≤ open_limit d i x → Out d i need x (suc f)
    found v e l = ((λ h. absurd (none-some _ (sym h ∙ e))), (λ h. absurd (omega arith)))

    go : (a b c : Bool) → is_closed d.closed x || eqb most 0 ≡ a → ltb most need ≡ b → eqb most need ≡ c
        → ((need : ℕ) (e : Draft) → length e.plan.pieces ≡ 128 → e.plan.placed + f ≤ 128 → 1 ≤ need → Out e i need (x + 1) f) → Out d i need x (suc f)
    go true b c p q r ih =
        let s : share_from d i need x (suc f) ≡ share_from d i need (x + 1) f = rw p in
        let z : open_limit d i x ≡ 0 = skipped (is_closed d.closed x) most (one_of p) in
        let o : Out d i need (x + 1) f = ih need d long (omega arith) needed in
        ((λ h. omega (arith, z, o.0 (sym s ∙ h))), (λ h. s ∙ o.1 (omega (arith, z))))
    go false true c p q r ih =
        let s : share_from d i need x (suc f) ≡ share_from next i (need - most) (x + 1) f = rw (p, q) in
        let z : open_limit d i x ≡ most = whole p in
        let l : most < need = ltb-true _ _ q in
        let o : Out next i (need - most) (x + 1) f = ih (need - most) next (put_length (share_piece i x most) d.plan ∙ long) (omega arith) (omega arith) in
        ((λ h. omega (arith, z, kept, o.0 (sym s ∙ h))), (λ h. s ∙ o.1 (omega (arith, z, kept))))
    go false false true p q r ih = found (close (give_share d i x need) x) (rw (p, q, r)) (omega (arith, whole p, ltb-false most need q))
    go false false false p q r ih = found (give_share d i x need) (rw (p, q, r)) (omega (arith, whole p, ltb-false most need q))

-- over all cores
pub shares_out : (d : Draft) (i need : ℕ) → length d.plan.pieces ≡ 128 → d.plan.placed + d.plan.cores ≤ 128 → 1 ≤ need
    → (share_from d i need 0 d.plan.cores ≡ None → sum d.plan.cores (open_limit d i) < need) × (sum d.plan.cores (open_limit d i) < need → share_from d i need 0 d.plan.cores ≡ None)
unfolding sum
shares_out d i need long few needed =
    let o : Out d i need 0 d.plan.cores = runs_out i d.plan.cores 0 need d long few needed in
    let z : 0 + d.plan.cores ≡ d.plan.cores = omega arith in
    let e : sum d.plan.cores (open_limit d i) ≡ rooms d i 0 d.plan.cores = omega (arith, rooms_sum d i d.plan.cores 0, ap (λ (n : ℕ). sum n (open_limit d i)) z) in
    ((λ h. omega (arith, e, o.0 h)), (λ h. o.1 (omega (arith, e))))
