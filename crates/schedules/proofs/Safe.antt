-- A certified plan: every state that accepted ticks lead to keeps room for each last piece, so no job is late.
use mathlib.Core.Path.{◌≡◌, refl, sym, ap, ◌∙◌}
use mathlib.Core.Logic.{◌⊎◌, inl, inr}
use mathlib.Core.Bool.{Bool, true, false, not, ◌&&◌, cond}
use Prim.Native.Nat.{ℕ, zero, suc, ◌+◌, ◌-◌, ◌≤◌, ◌<◌}
use native.Mathlib.Nat.{le_refl, le_trans}
use native.Mathlib.Omega.{arith}
use borrow.Author.Tests.{eqb-true, eq-eqb, not-true}
use Rattle.tasks.proofs.Below.{any_found, any_each, Found, sum_add, sum_le, sum_member}
use Rattle.tasks.proofs.Counting.{count_fewer}
use Rattle.tasks.proofs.Bools.{both, clash}
use Rattle.tasks.specs.Below.{sum, count}
use Rattle.plans.specs.Interference.{interference}
use Rattle.schedules.specs.Certificate.{Certificate, Timely}
use Rattle.schedules.specs.Model.{Stage, never, active, ended, Model, Sound, at, finish, release, run, May}
use Rattle.schedules.specs.Moments.{Moment, fresh, held, goes, goes_at, finished, released, ticked, tick, Accepted, Agree, Reached, start, next}
use Rattle.schedules.proofs.Room.{Room, room_full, room_less, room_tick, room_time}
use Rattle.schedules.proofs.Own.{need, gone, New, new_away, new_release, own_away, own_stop, own_run, need_pos}
use Rattle.schedules.proofs.Stage.{Good, Steady, hit, can, can_tick, can_quiet, can_never, can_finish, can_release, good_finish, good_release, good_run, Must}

cond_le : (b : Bool) {x y : ℕ} → (b ≡ true → x ≤ y) → cond b x 0 ≤ cond b y 0
cond_le true h = h refl
cond_le false h = le_refl 0

cond_add : (b : Bool) (x y : ℕ) {z : ℕ} → (b ≡ true → x + y ≤ z) → cond b x 0 + cond b y 0 ≤ cond b z 0
cond_add true x y h = h refl
cond_add false x y h = omega arith

module _ (M : Model) where
  -- how long the pieces above q can run in the next l ticks
  unfoldable pub higher : ℕ → (ℕ → Stage) → ℕ → ℕ
  unfolding sum can
  higher q o l = sum M.pieces (λ j. cond (M.above j q) (can M j (o (M.task j)) l) 0)

  pub higher_le : (q : ℕ) (o o' : ℕ → Stage) → ((j : ℕ) → j < M.pieces → (l : ℕ) → can M j (o' (M.task j)) l ≤ can M j (o (M.task j)) l) → (l : ℕ) → higher q o' l ≤ higher q o l
  unfolding higher
  higher_le q o o' h l = sum_le M.pieces _ _ (λ j k. cond_le (M.above j q) (λ a. h j k l))

module _ (M : Model) (S : Sound M) (limit : ℕ → ℕ) (C : Certificate M limit) where
  pub record Fit (o : ℕ → Stage) : Type 0 where
    pub good : (i : ℕ) → i < M.tasks → Good M i (o i)
    pub room : (q : ℕ) → q < M.pieces → M.last q ≡ true → Room (higher M q o) (limit q) (need M q (o (M.task q))) (gone M q (o (M.task q)))

  pub record Inv (s : Moment) : Type 0 where
    pub fit : Fit s.stage
    pub again : (q : ℕ) → q < M.pieces → M.last q ≡ true → s.ran (M.task q) ≡ true → Room (higher M q s.stage) (limit q) (M.cost q) 0

  room_new : {v : ℕ → ℕ} {b : ℕ} (q : ℕ) (o : Stage) → New M q o → Room v b (M.cost q) 0 → Room v b (need M q o) (gone M q o)
  room_new q o n r = rw (n.whole, n.now) r

  room_old : {v : ℕ → ℕ} {b : ℕ} (q : ℕ) (o : Stage) → New M q o → Room v b (need M q o) (gone M q o) → Room v b (M.cost q) 0
  room_old q o n r = rw (n.whole, n.now) at r

  room_quiet : (q : ℕ) (o : ℕ → Stage) → q < M.pieces → M.last q ≡ true → ((j : ℕ) → j < M.pieces → M.above j q ≡ true → (l : ℕ) → can M j (o (M.task j)) l ≤ interference (M.cost j) (M.period (M.task j)) l) → Room (higher M q o) (limit q) (M.cost q) 0
  unfolding higher
  room_quiet q o h z k = room_full (higher M q o) (λ l. sum M.pieces (λ j. cond (M.above j q) (interference (M.cost j) (M.period (M.task j)) l) 0)) (limit q) (M.cost q) (λ l. sum_le M.pieces _ _ (λ j b. cond_le (M.above j q) (λ a. k j b a l))) (C.bound q h z)

  pub inv_fresh : Inv fresh
  unfolding fresh at
  inv_fresh = record {
    fit = record {
      good = λ i h. tt;
      room = λ q h z. room_new q never (new_away M q never refl) (room_quiet q (λ i. never) h z (λ j b a l. can_never M S j b l));
    };
    again = λ q h z r. clash r refl;
  }

  -- ---- rule 1: a finished job had run, so there was room for the whole cost
  fit_finished : (fs : ℕ → Bool) (s : Moment) → Inv s → ((i : ℕ) → i < M.tasks → fs i ≡ true → s.ran i ≡ true) → Fit (finished M fs s.stage)
  unfolding finished at finish
  fit_finished fs s v h = record { good = λ i k. good (fs i) i k; room = λ q k z. room_less (higher_le M q s.stage _ less) (room (fs (M.task q)) q refl k z) }
    where
      good : (b : Bool) (i : ℕ) → i < M.tasks → Good M i (cond b (finish (s.stage i)) (s.stage i))
      good true i k = good_finish M S i (s.stage i) (v.fit.good i k)
      good false i k = v.fit.good i k

      less : (j : ℕ) → j < M.pieces → (l : ℕ) → can M j (finished M fs s.stage (M.task j)) l ≤ can M j (s.stage (M.task j)) l
      less j k l = go (fs (M.task j))
        where
          go : (b : Bool) → can M j (cond b (finish (s.stage (M.task j))) (s.stage (M.task j))) l ≤ can M j (s.stage (M.task j)) l
          go true = can_finish M S j k (s.stage (M.task j)) l
          go false = le_refl _

      away : (q : ℕ) (o : Stage) → at q (finish o) ≡ false
      away q never = refl
      away q (ended a) = refl
      away q (active a k r) = refl

      room : (b : Bool) (q : ℕ) → fs (M.task q) ≡ b → q < M.pieces → M.last q ≡ true → Room (higher M q s.stage) (limit q) (need M q (cond b (finish (s.stage (M.task q))) (s.stage (M.task q)))) (gone M q (cond b (finish (s.stage (M.task q))) (s.stage (M.task q))))
      room true q e k z = room_new q _ (new_away M q _ (away q (s.stage (M.task q)))) (v.again q k z (h _ (S.owned q k) e))
      room false q e k z = v.fit.room q k z

  -- ---- rule 3: a task that may be released is not at any piece
  fit_released : (rs : ℕ → Bool) (o : ℕ → Stage) → Fit o → ((i : ℕ) → i < M.tasks → rs i ≡ true → May M i (o i)) → Fit (released M rs o)
  unfolding released at
  fit_released rs o v h = record { good = λ i k. good (rs i) i k; room = λ q k z. room_less (higher_le M q o _ less) (room (rs (M.task q)) q refl k z) }
    where
      good : (b : Bool) (i : ℕ) → i < M.tasks → Good M i (cond b (release M i) (o i))
      good true i k = good_release M S i k
      good false i k = v.good i k

      less : (j : ℕ) → j < M.pieces → (l : ℕ) → can M j (released M rs o (M.task j)) l ≤ can M j (o (M.task j)) l
      less j k l = go (rs (M.task j)) refl
        where
          go : (b : Bool) → rs (M.task j) ≡ b → can M j (cond b (release M (M.task j)) (o (M.task j))) l ≤ can M j (o (M.task j)) l
          go true e = can_release M S j k (o (M.task j)) l (h _ (S.owned j k) e)
          go false e = le_refl _

      away : (i q : ℕ) (x : Stage) → May M i x → at q x ≡ false
      away i q never m = refl
      away i q (ended a) m = refl
      away i q (active a k r) m = absurd m

      room : (b : Bool) (q : ℕ) → rs (M.task q) ≡ b → q < M.pieces → M.last q ≡ true → Room (higher M q o) (limit q) (need M q (cond b (release M (M.task q)) (o (M.task q)))) (gone M q (cond b (release M (M.task q)) (o (M.task q))))
      room true q e k z = room_new q _ (new_release M q (M.task q)) (room_old q _ (new_away M q _ (away (M.task q) q (o (M.task q)) (h _ (S.owned q k) e))) (v.room q k z))
      room false q e k z = v.room q k z

  -- ---- rule 4: where a job is at a piece above q, one of those pieces runs
  record Runner (o : ℕ → Stage) (q : ℕ) : Type 0 where
    place : ℕ
    below : place < M.pieces
    over : M.above place q ≡ true
    there : at place (o (M.task place)) ≡ true
    runs : goes M o (M.task place) ≡ true

  goes_at_lem : (o : ℕ → Stage) (j : ℕ) (x : Stage) → at j x ≡ true → goes_at M o x ≡ not (held M o j)
  unfolding goes_at at
  goes_at_lem o j never e = clash e refl
  goes_at_lem o j (ended a) e = clash e refl
  goes_at_lem o j (active a k r) e = ap (λ (x : ℕ). not (held M o x)) (eqb-true k j e)

  -- the pieces above j are fewer than those above a piece that j is above
  overs : ℕ → ℕ
  overs j = count M.pieces (λ x. M.above x j)

  overs_fall : (j k : ℕ) → j < M.pieces → M.above j k ≡ true → overs j < overs k
  unfolding overs
  overs_fall j k b h = count_fewer M.pieces _ _ (λ x l a. C.chain x j k a h) j b (C.strict j) h

  climb : (f : ℕ) (o : ℕ → Stage) (j q : ℕ) → overs j < f → j < M.pieces → M.above j q ≡ true → at j (o (M.task j)) ≡ true → Runner o q
  unfolding goes held
  climb zero o j q r b a t = absurd (omega arith)
  climb (suc f) o j q r b a t = go (held M o j) refl (climb f o)
    where
      go : (x : Bool) → held M o j ≡ x → ((j q : ℕ) → overs j < f → j < M.pieces → M.above j q ≡ true → at j (o (M.task j)) ≡ true → Runner o q) → Runner o q
      go false e ih = record { place = j; below = b; over = a; there = t; runs = goes_at_lem o j (o (M.task j)) t ∙ ap not e }
      go true e ih =
          let m : Found M.pieces (λ k. M.above k j && at k (o (M.task k))) = any_found _ _ e in
          let n : (M.above m.place j ≡ true) × (at m.place (o (M.task m.place)) ≡ true) = both m.holds in
          ih m.place q (omega (arith, overs_fall _ _ m.below n.0)) m.below (C.chain _ _ _ n.0 a) n.1

  unheld : (o : ℕ → Stage) (q j : ℕ) → held M o q ≡ false → j < M.pieces → M.above j q ≡ true → at j (o (M.task j)) ≡ false
  unfolding held
  unheld o q j e b a = rw a at (any_each _ (λ k. M.above k q && at k (o (M.task k))) e j b)

  module _ (o : ℕ → Stage) (v : Fit o) where
    after : ℕ → Stage
    after i = run M i (goes M o i) (o i)

    record Kept (q : ℕ) : Type 0 where
      room : Room (higher M q after) (limit q) (need M q (after (M.task q))) (gone M q (after (M.task q)))
      again : goes M o (M.task q) ≡ true → Room (higher M q after) (limit q) (M.cost q) 0

    own : (j : ℕ) → j < M.pieces → Good M (M.task j) (o (M.task j))
    own j h = v.good (M.task j) (S.owned j h)

    hits : ℕ → ℕ
    hits q = sum M.pieces (λ j. cond (M.above j q) (hit j (goes M o (M.task j)) (o (M.task j))) 0)

    higher_tick : (q l : ℕ) → higher M q after l + hits q ≤ higher M q o (suc l)
    unfolding higher hits after
    higher_tick q l = sum_add M.pieces _ _ _ (λ j h. cond_add (M.above j q) _ _ (λ a. can_tick M S j h (goes M o (M.task j)) (o (M.task j)) l (own j h)))

    hits_one : (q : ℕ) → Runner o q → 1 ≤ hits q
    unfolding hits hit
    hits_one q r = le_trans (rw (r.over, r.runs, r.there) (le_refl 1)) (sum_member M.pieces _ r.place r.below)

    -- a last piece below one that runs
    behind : (q : ℕ) → q < M.pieces → M.last q ≡ true → Runner o q → (b : Bool) → at q (o (M.task q)) ≡ b → Kept q
    unfolding after goes
    behind q h z r false e =
        let w : Room (higher M q after) (limit q) (M.cost q) 0 = room_tick (M.cost q) 0 1 (λ l. omega (arith, higher_tick q l, hits_one q r)) (S.some q h) (le_refl _) (omega arith) (room_old q _ (new_away M q _ e) (v.room q h z)) in
        record { room = room_new q _ (own_away M q S h (M.task q) (goes M o (M.task q)) _ (own q h) e) w; again = λ g. w }
    behind q h z r true e = go (goes M o (M.task q)) refl
      where
        stop : (need M q (run M (M.task q) false (o (M.task q))) ≤ need M q (o (M.task q))) × (gone M q (run M (M.task q) false (o (M.task q))) ≤ gone M q (o (M.task q)) + 1)
        stop = own_stop M q S h (M.task q) (o (M.task q))

        go : (x : Bool) → goes M o (M.task q) ≡ x → Kept q
        go true g = clash r.there (unheld o q r.place (not-true _ (sym (goes_at_lem o q _ e) ∙ g)) r.below r.over)
        go false g = record {
          room = rw g (room_tick _ _ 1 (λ l. omega (arith, higher_tick q l, hits_one q r)) (need_pos M q S h _ _ (own q h)) (omega (arith, stop.0)) stop.1 (v.room q h z));
          again = λ t. clash t g;
        }

    -- a last piece with no job above
    ahead : (q : ℕ) → q < M.pieces → M.last q ≡ true → held M o q ≡ false → (b : Bool) → at q (o (M.task q)) ≡ b → Kept q
    unfolding after goes
    ahead q h z u b e = record { room = room b e; again = λ g. free }
      where
        free : Room (higher M q after) (limit q) (M.cost q) 0
        free = room_quiet q after h z (λ j k a l. can_quiet M S j k (goes M o (M.task j)) (o (M.task j)) l (own j k) (unheld o q j u k a))

        ran : New M q (run M (M.task q) true (o (M.task q))) ⊎ ((need M q (run M (M.task q) true (o (M.task q))) + 1 ≤ need M q (o (M.task q))) × (gone M q (run M (M.task q) true (o (M.task q))) ≤ gone M q (o (M.task q)) + 1)) → Room (higher M q after) (limit q) (need M q (run M (M.task q) true (o (M.task q)))) (gone M q (run M (M.task q) true (o (M.task q))))
        ran (inl n) = room_new q _ n free
        ran (inr n) = room_tick _ _ 0 (λ l. omega (arith, higher_tick q l)) (need_pos M q S h _ _ (own q h)) (omega (arith, n.0)) n.1 (v.room q h z)

        room : (b : Bool) → at q (o (M.task q)) ≡ b → Room (higher M q after) (limit q) (need M q (after (M.task q))) (gone M q (after (M.task q)))
        room false e = room_new q _ (own_away M q S h (M.task q) (goes M o (M.task q)) _ (own q h) e) free
        room true e =
            let g : goes M o (M.task q) ≡ true = goes_at_lem o q _ e ∙ ap not u in
            rw g (ran (own_run M q S h (M.task q) _ (own q h) z e))

    kept : (q : ℕ) → q < M.pieces → M.last q ≡ true → Kept q
    unfolding held
    kept q h z = go (held M o q) refl
      where
        go : (x : Bool) → held M o q ≡ x → Kept q
        go false u = ahead q h z u _ refl
        go true u =
            let m : Found M.pieces (λ k. M.above k q && at k (o (M.task k))) = any_found _ _ u in
            let n : (M.above m.place q ≡ true) × (at m.place (o (M.task m.place)) ≡ true) = both m.holds in
            behind q h z (climb (suc (overs m.place)) o m.place q (le_refl _) m.below n.0 n.1) _ refl

    must : (i : ℕ) → i < M.tasks → Must M (goes M o i) (o i)
    unfolding goes goes_at held
    must i h a k r e z = rw e (go (held M o k) refl)
      where
        g : Steady M i a k r
        g = rw e at (v.good i h)

        go : (x : Bool) → held M o k ≡ x → not (held M o k) ≡ true
        go false u = ap not u
        go true u =
            let m : Found M.pieces (λ j. M.above j k && at j (o (M.task j))) = any_found _ _ u in
            clash (both m.holds).0 (C.top m.place k m.below g.known z)

    inv_ticked : Inv (ticked M o)
    unfolding ticked after
    inv_ticked = record {
      fit = record {
        good = λ i h. good_run M S i (goes M o i) (o i) (must i h) (v.good i h);
        room = λ q h z. (kept q h z).room;
      };
      again = λ q h z. (kept q h z).again;
    }

  pub inv_tick : (fs rs : ℕ → Bool) (s : Moment) → Accepted M fs rs s → Inv s → Inv (tick M fs rs s)
  unfolding tick
  inv_tick fs rs s a v = inv_ticked (released M rs (finished M fs s.stage)) (fit_released rs _ (fit_finished fs s v a.ended) a.begun)

  inv_agree : (s t : Moment) → Agree M s t → Inv s → Inv t
  inv_agree s t a v = record {
    fit = record {
      good = λ i h. rw (a.stages i h) (v.fit.good i h);
      room = λ q h z. rw (a.stages _ (S.owned q h)) (room_less (higher_le M q s.stage t.stage same) (v.fit.room q h z));
    };
    again = λ q h z r. room_less (higher_le M q s.stage t.stage same) (v.again q h z (sym (a.runs _ (S.owned q h)) ∙ r));
  }
    where
      same : (j : ℕ) → j < M.pieces → (l : ℕ) → can M j (t.stage (M.task j)) l ≤ can M j (s.stage (M.task j)) l
      same j h l = rw (a.stages _ (S.owned j h)) (le_refl _)

module _ (M : Model) (S : Sound M) (limit : ℕ → ℕ) (C : Certificate M limit) where
  pub inv_reached : (s : Moment) → Reached M s → Inv M S limit C s
  inv_reached s (start a) = inv_agree M S limit C fresh s a (inv_fresh M S limit C)
  inv_reached s (next fs rs {s = r} v k) = inv_agree M S limit C _ s k.agree (inv_tick M S limit C fs rs r k.accepted (inv_reached r v))

  -- a job at its last piece
  pub in_time_last : (s : Moment) → Reached M s → (q : ℕ) → q < M.pieces → M.last q ≡ true → (a r : ℕ) → s.stage (M.task q) ≡ active a q r → a < M.off q + limit q
  unfolding need gone
  in_time_last s v q h z a r e =
      let i : Inv M S limit C s = inv_reached s v in
      let t : gone M q (active a q r) < limit q = rw e at (room_time (need_pos M q S h (M.task q) (s.stage (M.task q)) (i.fit.good _ (S.owned q h))) (i.fit.room q h z)) in
      let u : a - M.off q < limit q = rw (eq-eqb q q refl) at t in
      omega arith

  -- any job
  pub in_time : (deadline : ℕ → ℕ) → ((k : ℕ) → k < M.pieces → M.off k + M.cost k ≤ deadline (M.task k)) → Timely M limit deadline →
      (s : Moment) → Reached M s → (i : ℕ) → i < M.tasks → (a k r : ℕ) → s.stage i ≡ active a k r → a < deadline i
  in_time deadline c d s v i h a k r e = go (M.last k) refl
    where
      g : Steady M i a k r
      g = rw e at ((inv_reached s v).fit.good i h)

      go : (b : Bool) → M.last k ≡ b → a < deadline i
      go true z = rw g.own at (le_trans (in_time_last s v k g.known z a r (rw g.own e)) (d k g.known z))
      go false z =
          let t : a < deadline (M.task k) = omega (arith, g.exact z, g.part, c k g.known) in
          rw g.own at t

  -- so rule 2 marks no job: after the finishes no active job has its deadline's age
  pub never_late : (deadline : ℕ → ℕ) → ((k : ℕ) → k < M.pieces → M.off k + M.cost k ≤ deadline (M.task k)) → Timely M limit deadline →
      (s : Moment) → Reached M s → (fs : ℕ → Bool) (i : ℕ) → i < M.tasks → (a k r : ℕ) → finished M fs s.stage i ≡ active a k r → a < deadline i
  unfolding finished finish
  never_late deadline c d s v fs i h a k r e = go (fs i) e
    where
      gone_job : (o : Stage) → finish o ≡ active a k r → ⊥
      gone_job never n = let z : ◌≡◌ {A = ℕ} 0 1 = cc in omega arith
      gone_job (ended b) n = let z : ◌≡◌ {A = ℕ} 0 1 = cc in omega arith
      gone_job (active b l m) n = let z : ◌≡◌ {A = ℕ} 0 1 = cc in omega arith

      go : (b : Bool) → cond b (finish (s.stage i)) (s.stage i) ≡ active a k r → a < deadline i
      go true n = absurd (gone_job (s.stage i) n)
      go false n = in_time deadline c d s v i h a k r n
