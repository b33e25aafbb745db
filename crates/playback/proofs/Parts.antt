-- A replay in parts is the replay of the whole: what is played of the bytes at hand is what the whole input prints first, and the rest comes after it.
use mathlib.Core.Path.{◌≡◌, refl, sym, ap, ◌∙◌}
use mathlib.Core.Bool.{Bool, true, false, cond}
use mathlib.Core.Logic.{◌⊎◌, inl, inr, ⊎_elim}
use mathlib.Core.List.{List, [], ◌∷◌, ◌++◌, append_assoc, append-nil}
use Prim.Native.Nat.{ℕ, zero, suc, ◌+◌, ◌-◌, ◌*◌, ◌≤◌, ◌<◌, min}
use native.Mathlib.Nat.{zero-add}
use native.Mathlib.Omega.{arith}
use borrow.Author.Tests.{lt-ltb, le-ltb, le-leb, lt-leb, ltb-true, ltb-false}
use lib.Dec.{ltb, leb}
use Rattle.std.specs.Prelude.{Ok, Err}
use lib.ListN.{length, get_or, take, drop, length-append, length-take, length-drop}
use lib.Seq.{drop-append-le, ext_get_or, get_or-take, take_at, drop_at, drop-drop}
use Rattle.tasks.specs.Below.{padded}
use Rattle.tasks.proofs.Padded.{padded_in, padded_length}
use Rattle.tasks.specs.Answers.{Answer, Accepted, Refused}
use Rattle.tasks.specs.declared.Refusal.{Refusal}
use Rattle.tasks.specs.declared.Refusal.TheVariants.{CutShort}
use Rattle.plans.specs.declared.Plan.{Plan}
use Rattle.dispatch.specs.declared.State.{State}
use Rattle.ticklines.specs.Lines.{ran_most, totals_text}
use Rattle.texts.specs.Telling.{refusal_text}
use Rattle.tasks.specs.Places.{place_at, further}
use Rattle.tasks.proofs.Places.{further_is}
use Rattle.files.specs.Files.{plan_read}
use Rattle.files.specs.declared.Default.{Default}
use Rattle.playback.specs.Requests.{request_size, request_answer}
use Rattle.playback.specs.Replay.{closed, ticks_text, told, replay_text, Standing, next, played_in, beginning, played_from, standing, played_on, Parts, reads, plays, closes}
use Rattle.playback.specs.Players.{held, start, at_hand, last_answer}
use Rattle.playback.specs.declared.Player.{Player}
use Rattle.playback.proofs.Course.{played_more, played_short, played_stuck}
use Rattle.playback.proofs.Good.{Good, accepted_good, good_accepted, good_on, finished_on, released_on, size_is, size_on, full_same}

-- ---- some requests played

-- what is printed from z on is what y has printed more, and what is printed from there on; each tick has a byte at least
pub record Runs (p : Plan) (z y : Standing) : Type 0 where
  pub ticks : ℕ
  pub shorter : ticks + length y.left ≤ length z.left
  pub prints : (k n : ℕ) (more : List ℕ) → z.said ++ ticks_text (ticks + k) p n z.state (z.left ++ more) ≡ y.said ++ ticks_text k p (n + (length z.left - length y.left)) y.state (y.left ++ more)

module _ (p : Plan) where
  next_left : (z : Standing) → (next p z).left ≡ drop (request_size z.left) z.left
  unfolding next
  next_left z = refl

  -- one request of the whole input
  first_ticks : (k n : ℕ) (z : Standing) (more : List ℕ) → Good z.left → z.said ++ ticks_text (suc k) p n z.state (z.left ++ more) ≡ (next p z).said ++ ticks_text k p (n + request_size z.left) (next p z).state ((next p z).left ++ more)
  unfolding ticks_text next
  first_ticks k n z more g =
      let long : 0 < length (z.left ++ more) = omega (arith, size_is z.left, g.whole, length-append z.left more) in
      let yes : request_answer (z.left ++ more) (place_at n) ≡ Accepted = good_accepted (z.left ++ more) (good_on z.left g more) (place_at n) in
      let size : request_size (z.left ++ more) ≡ request_size z.left = size_on z.left g more in
      let rest : drop (request_size z.left) (z.left ++ more) ≡ drop (request_size z.left) z.left ++ more = drop-append-le (request_size z.left) z.left more g.whole in
      rw (lt-leb (length (z.left ++ more)) 0 long, yes, finished_on z.left g more, released_on z.left g more, size, rest) (sym (append_assoc z.said _ _))

  runs_none : (z y : Standing) → y ≡ z → Runs p z y
  runs_none z y e = rw e record { ticks = 0; shorter = omega arith; prints = λ k n more. rw (zero-add k, same n) }
    where
      same : (n : ℕ) → n + (length z.left - length z.left) ≡ n
      same n = omega arith

  runs_first : (z y : Standing) → Good z.left → Runs p (next p z) y → Runs p z y
  runs_first z y g r = record {
    ticks = suc r.ticks;
    shorter = omega (arith, ap length (next_left z), length-drop (request_size z.left) z.left, size_is z.left, g.whole, r.shorter);
    prints = λ k n more. rw (suc_sum k, ← far n) (first_ticks (r.ticks + k) n z more g ∙ r.prints k (n + request_size z.left) more);
  }
    where
      suc_sum : (k : ℕ) → suc r.ticks + k ≡ suc (r.ticks + k)
      suc_sum k = omega arith

      far : (n : ℕ) → n + request_size z.left + (length (next p z).left - length y.left) ≡ n + (length z.left - length y.left)
      far n = omega (arith, ap length (next_left z), length-drop (request_size z.left) z.left, size_is z.left, g.whole, r.shorter)

  -- as many requests as there is room for, at the beginning of some bytes, whatever comes after these
  runs_on : (j room : ℕ) (z : Standing) → Runs p z (played_in j p room z)
  unfolding played_in
  runs_on zero room z = runs_none z z refl
  runs_on (suc j) room z = go _ refl _ refl (runs_on j room (next p z))
    where
      go : (b : Bool) → ltb room (length z.said + ran_most) ≡ b → (a : Answer) → request_answer z.left (place_at 0) ≡ a → Runs p (next p z) (played_in j p room (next p z)) → Runs p z (played_in (suc j) p room z)
      go true q a e r = runs_none z _ (played_short p room z (suc j) (ltb-true room _ q))
      go false q (Refused x) e r = runs_none z _ (played_stuck p room z (suc j) x e)
      go false q Accepted e r = rw (played_more p room z j (ltb-false room _ q) e) (runs_first z _ (accepted_good z.left (place_at 0) e) r)

  -- then no whole request is left, or the room is short of a longest line
  abbrev Stops : ℕ → Standing → Type 0
  Stops room y = (request_answer y.left (place_at 0) ≡ Accepted → ⊥) ⊎ (room < length y.said + ran_most)

  stops : (j room : ℕ) (z : Standing) → length z.left ≤ j → Stops room (played_in j p room z)
  unfolding played_in
  stops zero room z h = inl (λ e. omega (arith, size_is z.left, (accepted_good z.left (place_at 0) e).whole))
  stops (suc j) room z h = go _ refl _ refl (stops j room (next p z))
    where
      go : (b : Bool) → ltb room (length z.said + ran_most) ≡ b → (a : Answer) → request_answer z.left (place_at 0) ≡ a → (length (next p z).left ≤ j → Stops room (played_in j p room (next p z))) → Stops room (played_in (suc j) p room z)
      go true q a e r = rw (played_short p room z (suc j) (ltb-true room _ q)) (inr (ltb-true room _ q))
      go false q (Refused x) e r = rw (played_stuck p room z (suc j) x e) (inl (λ f. let n : ◌≡◌ {A = ℕ} 0 1 = cc in omega arith))
      go false q Accepted e r =
          let g : Good z.left = accepted_good z.left (place_at 0) e in
          rw (played_more p room z j (ltb-false room _ q) e) (r (omega (arith, ap length (next_left z), length-drop (request_size z.left) z.left, size_is z.left, g.whole)))

-- ---- one part of the input

-- what is left at the beginning of a player's bytes is what is at hand
kept_left : (l : List ℕ) → length l ≤ held → take (min (length l) held) (padded held (length l) 0 (λ i. get_or l i 0)) ≡ l
kept_left l h = ext_get_or 0 _ l long (λ i b. get_or-take (min (length l) held) _ i 0 (omega (arith, long)) ∙ padded_in held 0 (length l) _ i (omega (arith, long)) (omega (arith, long)))
  where
    long : length (take (min (length l) held) (padded held (length l) 0 (λ i. get_or l i 0))) ≡ length l
    long = length-take (min (length l) held) _ ∙ omega (arith, padded_length held 0 (length l) (λ i. get_or l i 0))

-- one part: what is played is what the input prints next, the player v then stands where the input goes on, and no whole request is left at hand or the room was short of one longest line
pub record GoesOn (p : Plan) (w v : Player) (said : List ℕ) (room : ℕ) : Type 0 where
  pub ticks : ℕ
  pub shorter : ticks + length (at_hand v) ≤ length (at_hand w)
  pub stands : v.place + length (at_hand v) ≡ w.place + length (at_hand w)
  pub prints : (k : ℕ) (more : List ℕ) → ticks_text (ticks + k) p w.place w.state (at_hand w ++ more) ≡ said ++ ticks_text k p v.place v.state (at_hand v ++ more)
  pub no_more : (request_answer (at_hand v) (place_at 0) ≡ Accepted → ⊥) ⊎ (room < length said + ran_most)

pub goes_on_lem : (p : Plan) (w : Player) (room : ℕ) → w.place + length (at_hand w) ≤ 18446744073709551615 → GoesOn p w (played_on p w room).player (played_from p w room).said room
unfolding played_from
goes_on_lem p w room far = go (played_in (length (at_hand w)) p room (beginning w.state (at_hand w))) (runs_on p (length (at_hand w)) room (beginning w.state (at_hand w))) (stops p (length (at_hand w)) room (beginning w.state (at_hand w)) (omega arith))
  where
    go : (z : Standing) → Runs p (beginning w.state (at_hand w)) z → Stops p room z → GoesOn p w (standing w z) z.said room
    go z r s =
        let small : length (at_hand w) ≤ held = omega (arith, length-take (min w.count held) w.bytes) in
        let hand : at_hand (standing w z) ≡ z.left = kept_left z.left (omega (arith, r.shorter)) in
        let there : further w.place (length (at_hand w) - length z.left) ≡ w.place + (length (at_hand w) - length z.left) = further_is w.place _ (omega arith) in
        record {
          ticks = r.ticks;
          shorter = rw hand r.shorter;
          stands = rw (hand, there) (omega (arith, r.shorter));
          prints = λ k more. rw (hand, there) (r.prints k w.place more);
          no_more = rw hand s;
        }

-- a longest line had room, and nothing was printed: no whole request is left
pub nothing_left : (p : Plan) (w : Player) (room : ℕ) → w.place + length (at_hand w) ≤ 18446744073709551615 → ran_most ≤ room → (played_on p w room).length ≡ 0 → request_answer (at_hand (played_on p w room).player) (place_at 0) ≡ Accepted → ⊥
nothing_left p w room far h none = ⊎_elim (λ never. never) (λ l e. omega arith) (goes_on_lem p w room far).no_more

-- ---- the end of the input

-- what is left is no whole request: its refusal, if there is one, and the totals
at_end : (p : Plan) (k n : ℕ) (s : State) (bs : List ℕ) → length bs ≤ k → (request_answer bs (place_at 0) ≡ Accepted → ⊥) → ticks_text k p n s bs ≡ closed (cond (leb (length bs) 0) Accepted (request_answer bs (place_at n))) s (totals_text s)
unfolding ticks_text
at_end p zero n s bs h never = rw (le-leb (length bs) 0 h)
at_end p (suc k) n s bs h never = go _ refl (leb (length bs) 0) _
  where
    go : (a : Answer) → request_answer bs (place_at n) ≡ a → (b : Bool) (more : List ℕ) → cond b (totals_text s) (closed (request_answer bs (place_at n)) s more) ≡ closed (cond b Accepted (request_answer bs (place_at n))) s (totals_text s)
    go a q true more = refl
    go (Refused x) q false more = rw q
    go Accepted q false more = absurd (never (good_accepted bs (accepted_good bs (place_at n) q) (place_at 0)))

-- a player's last answer and the totals are what the input still prints, at its end or with all bytes at hand that there may be
pub ends : (p : Plan) (w : Player) (more : List ℕ) (k : ℕ) → length (at_hand w ++ more) ≤ k → (more ≡ []) ⊎ (held ≤ length (at_hand w)) → (request_answer (at_hand w) (place_at 0) ≡ Accepted → ⊥)
    → ticks_text k p w.place w.state (at_hand w ++ more) ≡ closed (last_answer w) w.state (totals_text w.state)
unfolding last_answer
ends p w more k h (inl none) never =
    let all : at_hand w ++ more ≡ at_hand w = ap (λ (l : List ℕ). at_hand w ++ l) none ∙ append-nil (at_hand w) in
    rw all (at_end p k w.place w.state (at_hand w) (omega (arith, length-append (at_hand w) more)) never)
ends p w more k h (inr full) never =
    let nowhere : request_answer (at_hand w) (place_at w.place) ≡ Accepted → ⊥ = λ e. never (good_accepted (at_hand w) (accepted_good (at_hand w) (place_at w.place) e) (place_at 0)) in
    let long : length (at_hand w ++ more) ≡ length (at_hand w) + length more = length-append (at_hand w) more in
    let same : request_answer (at_hand w ++ more) (place_at w.place) ≡ request_answer (at_hand w) (place_at w.place) = full_same (at_hand w) more (place_at w.place) (omega arith) nowhere in
    let start_same : request_answer (at_hand w ++ more) (place_at 0) ≡ request_answer (at_hand w) (place_at 0) = full_same (at_hand w) more (place_at 0) (omega arith) never in
    at_end p k w.place w.state (at_hand w ++ more) h (λ e. never (sym start_same ∙ e)) ∙ rw (lt-leb (length (at_hand w ++ more)) 0 (omega arith), lt-leb (length (at_hand w)) 0 (omega arith), same)

-- ---- all parts together

-- whatever parts the input is read in and whatever room there is for each, what is printed is what the whole input prints
pub parts_whole : {p : Plan} {w : Player} {more text : List ℕ} → Parts p w more text → (k : ℕ) → length (at_hand w ++ more) ≤ k → w.place + length (at_hand w ++ more) ≤ 18446744073709551615
    → text ≡ ticks_text k p w.place w.state (at_hand w ++ more)
parts_whole {p = p} (reads w v part more text es ep eh rest) k h far =
    let same : at_hand v ++ more ≡ at_hand w ++ (part ++ more) = ap (λ (l : List ℕ). l ++ more) eh ∙ append_assoc (at_hand w) part more in
    let long : length (at_hand v ++ more) ≡ length (at_hand w ++ (part ++ more)) = ap length same in
    parts_whole rest k (omega arith) (omega arith) ∙ rw (es, ep, same)
parts_whole {p = p} (plays w room more text rest) k h far =
    let a : length (at_hand w ++ more) ≡ length (at_hand w) + length more = length-append (at_hand w) more in
    let g : GoesOn p w (played_on p w room).player (played_from p w room).said room = goes_on_lem p w room (omega arith) in
    let b : length (at_hand (played_on p w room).player ++ more) ≡ length (at_hand (played_on p w room).player) + length more = length-append (at_hand (played_on p w room).player) more in
    let sum : g.ticks + (k - g.ticks) ≡ k = omega (arith, g.shorter) in
    ap (λ (l : List ℕ). (played_from p w room).said ++ l) (parts_whole rest (k - g.ticks) (omega (arith, g.shorter)) (omega (arith, g.stands))) ∙ sym (g.prints (k - g.ticks) more) ∙ ap (λ (n : ℕ). ticks_text n p w.place w.state (at_hand w ++ more)) sum
parts_whole {p = p} (closes w more at never) k h far = sym (ends p w more k h at never)

-- a whole input with an accepted plan file prints the ticks from a started player on
pub replay_begins : (d : Default) (high low : ℕ) (file ticks : List ℕ) (p : Plan) → length file ≡ high * 256 + low → plan_read d file ≡ Ok p
    → replay_text d (high ∷ low ∷ (file ++ ticks))
    ≡ ticks_text (length (high ∷ low ∷ (file ++ ticks))) p (start (2 + length file)).place (start (2 + length file)).state (at_hand (start (2 + length file)) ++ ticks)
unfolding replay_text
replay_begins d high low file ticks p e ok =
    let bs : List ℕ = high ∷ low ∷ (file ++ ticks) in
    let long : 2 + told bs ≤ length bs = omega (arith, e, length-append file ticks) in
    let body : take (told bs) (drop 2 bs) ≡ file = take_at file ticks (told bs) e in
    let rest : drop (2 + told bs) bs ≡ ticks = sym (drop-drop (told bs) 2 bs) ∙ drop_at file ticks (told bs) e in
    rw (le-ltb (length bs) (2 + told bs) long, body, ok, rest, e)

-- the parts that are printed from a started player on, put together, are what is printed for the whole input
pub replay_whole : (d : Default) (high low : ℕ) (file ticks text : List ℕ) (p : Plan) → length file ≡ high * 256 + low → plan_read d file ≡ Ok p → 2 + (length file + length ticks) ≤ 18446744073709551615
    → Parts p (start (2 + length file)) ticks text → text ≡ replay_text d (high ∷ low ∷ (file ++ ticks))
replay_whole d high low file ticks text p e ok far parts = parts_whole parts (length (high ∷ low ∷ (file ++ ticks))) (omega (arith, length-append file ticks)) (omega arith) ∙ sym (replay_begins d high low file ticks p e ok)

-- an input that ends before its plan file is whole, and one whose plan file is refused, print one line
pub replay_cut : (d : Default) (bs : List ℕ) → length bs < 2 + told bs → replay_text d bs ≡ refusal_text (CutShort (place_at 0))
unfolding replay_text
replay_cut d bs h = rw (lt-ltb (length bs) (2 + told bs) h)

pub replay_refused : (d : Default) (high low : ℕ) (file ticks : List ℕ) (x : Refusal) → length file ≡ high * 256 + low → plan_read d file ≡ Err x → replay_text d (high ∷ low ∷ (file ++ ticks)) ≡ refusal_text x
unfolding replay_text
replay_refused d high low file ticks x e bad =
    let bs : List ℕ = high ∷ low ∷ (file ++ ticks) in
    let long : 2 + told bs ≤ length bs = omega (arith, e, length-append file ticks) in
    let body : take (told bs) (drop 2 bs) ≡ file = take_at file ticks (told bs) e in
    rw (le-ltb (length bs) (2 + told bs) long, body, bad)
