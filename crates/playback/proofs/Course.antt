-- Playing the requests at hand: the code's turns are the definition's.
use mathlib.Core.Path.{◌≡◌, refl, sym, ap, ◌∙◌}
use mathlib.Core.Bool.{Bool, true, false, cond}
use mathlib.Core.List.{List, ◌++◌}
use Prim.Native.Nat.{ℕ, zero, suc, ◌+◌, ◌-◌, ◌≤◌, ◌<◌, min}
use native.Mathlib.Nat.{zero-add}
use native.Mathlib.Omega.{arith}
use lib.Dec.{ltb}
use lib.ListN.{length, get_or, take, drop, replicate, length-drop, length-append, get_or-append}
use lib.Seq.{drop-drop, get_or-drop, get_or-append_right}
use borrow.Author.Tests.{lt-ltb, le-ltb}
use Rattle.tasks.specs.Below.{padded}
use Rattle.tasks.specs.Places.{place_at, further}
use Rattle.tasks.proofs.Padded.{padded_is}
use Rattle.tasks.proofs.Tabulate.{replicate_at}
use Rattle.std.proofs.lemmas.List.{length-replicate, take_rest}
use Rattle.tasks.specs.Answers.{Accepted, Refused}
use Rattle.tasks.specs.declared.Refusal.{Refusal}
use Rattle.plans.specs.declared.Plan.{Plan}
use Rattle.dispatch.specs.declared.State.{State}
use Rattle.dispatch.specs.declared.Ticked.{Ticked}
use Rattle.texts.specs.Puts.{Puts}
use Rattle.texts.specs.declared.Text.{Text}
use Rattle.std.specs.Prelude.{Result, Ok, Err}
use Rattle.texts.proofs.Putting.{Put, put_none, put_next, put_tight}
use Rattle.ticklines.specs.Lines.{ran_most, ticked_text}
use Rattle.ticklines.proofs.Lengths.{ticked_few}
use Rattle.playback.specs.Requests.{request_size, request_answer, judged}
use Rattle.playback.specs.Players.{at_hand}
use Rattle.playback.specs.Replay.{tick_asked, Standing, next, played_in, beginning, played_from, standing, played_on, lines_in, Comes}
use Rattle.playback.specs.declared.Player.{Player}
use Rattle.playback.specs.declared.Played.{Played}
use Rattle.playback.specs.declared.Reached.{Reached}
use Rattle.playback.proofs.Good.{Good, accepted_good, size_is, refused_as, accepted_as}

-- ---- one request more, or none

module _ (p : Plan) (room : ℕ) (z : Standing) where
  pub played_more : (k : ℕ) → length z.said + ran_most ≤ room → request_answer z.left (place_at 0) ≡ Accepted → played_in (suc k) p room z ≡ played_in k p room (next p z)
  unfolding played_in
  played_more k h e = rw (le-ltb room (length z.said + ran_most) h, e)

  pub played_short : (k : ℕ) → room < length z.said + ran_most → played_in k p room z ≡ z
  unfolding played_in
  played_short zero h = refl
  played_short (suc k) h = rw (lt-ltb room (length z.said + ran_most) h)

  pub played_stuck : (k : ℕ) (x : Refusal) → request_answer z.left (place_at 0) ≡ Refused x → played_in k p room z ≡ z
  unfolding played_in
  played_stuck zero x e = refl
  played_stuck (suc k) x e = rw e (go (ltb room (length z.said + ran_most)))
    where
      go : (b : Bool) → cond b z z ≡ z
      go true = refl
      go false = refl

-- ---- the turns

-- some requests of the bytes are played: what is still to be played comes to the whole
pub record Playing (p : Plan) (bytes : List ℕ) (t : Text) (whole : Standing) (u : Text) (state : State) (at : ℕ) : Type 0 where
  pub z : Standing
  pub fuel : ℕ
  pub begins : t.end ≡ 0
  pub enough : length z.left ≤ fuel
  pub same : played_in fuel p (length t.bytes.now) z ≡ whole
  pub states : state ≡ z.state
  pub within : at ≤ length bytes
  pub lefts : drop at bytes ≡ z.left
  pub lines : Put t (length z.said) z.said u

pub playing_none : (p : Plan) (bytes : List ℕ) (t : Text) (s : State) → t.end ≡ 0 → Playing p bytes t (played_in (length bytes) p (length t.bytes.now) (beginning s bytes)) t s 0
playing_none p bytes t s e = record {
  z = beginning s bytes;
  fuel = length bytes;
  begins = e;
  enough = omega arith;
  same = refl;
  states = refl;
  within = omega arith;
  lefts = refl;
  lines = put_none t (omega arith);
}

module _ {p : Plan} {bytes : List ℕ} {t : Text} {whole : Standing} {u : Text} {state : State} {at : ℕ} (y : Playing p bytes t whole u state at) where
  pub hand : take (length bytes - at) (drop at bytes) ≡ y.z.left
  hand = take_rest bytes at ∙ y.lefts

  room_is : u.end ≡ length y.z.said
  room_is = omega (arith, y.lines.end, y.begins)

  stands : played_in y.fuel p (length t.bytes.now) y.z ≡ y.z → Comes (length bytes) bytes whole t.bytes.now u.bytes.now (record { state = state; at = at; length = u.end })
  stands e =
      let here : y.z ≡ whole = sym e ∙ y.same in
      record {
        state = y.states ∙ ap (λ (z : Standing). z.state) here;
        within = y.within;
        left = y.lefts ∙ ap (λ (z : Standing). z.left) here;
        long = room_is ∙ ap (λ (z : Standing). length z.said) here;
        lines = y.lines.bytes ∙ rw (y.begins, zero-add) (ap (λ (z : Standing). lines_in z.said t.bytes.now) here);
      }

  -- no room is left, or no whole request
  pub playing_short : length u.bytes.now < u.end + 337 → Comes (length bytes) bytes whole t.bytes.now u.bytes.now (record { state = state; at = at; length = u.end })
  playing_short h = stands (played_short p (length t.bytes.now) y.z y.fuel (omega (arith, room_is, y.lines.size)))

  pub playing_stuck : (r : Result ℕ Refusal) (x : Refusal) → r ≡ judged (take (length bytes - at) (drop at bytes)) (place_at 0) → r ≡ Err x → Comes (length bytes) bytes whole t.bytes.now u.bytes.now (record { state = state; at = at; length = u.end })
  playing_stuck r x e h = stands (played_stuck p (length t.bytes.now) y.z y.fuel x (ap (λ (l : List ℕ). request_answer l (place_at 0)) (sym hand) ∙ refused_as _ _ x (sym e ∙ h)))

  module _ (r : Result ℕ Refusal) (n : ℕ) (read : r ≡ judged (take (length bytes - at) (drop at bytes)) (place_at 0)) (yes : r ≡ Ok n) where
    accepted : request_answer y.z.left (place_at 0) ≡ Accepted
    accepted = ap (λ (l : List ℕ). request_answer l (place_at 0)) (sym hand) ∙ (accepted_as _ _ n (sym read ∙ yes)).0

    good : Good y.z.left
    good = accepted_good y.z.left (place_at 0) accepted

    size : n ≡ request_size y.z.left
    size = (accepted_as _ _ n (sym read ∙ yes)).1 ∙ ap request_size hand

    long : length y.z.left ≤ length bytes - at
    long = omega (arith, ap length y.lefts, length-drop at bytes)

    -- the next request is within the bytes, and takes some
    pub playing_within : (at + n ≤ length bytes) × (0 < n)
    playing_within = (omega (arith, size, long, good.whole, y.within), omega (arith, size, size_is y.z.left))

    pub playing_next : (made : Ticked) → made ≡ tick_asked p state (take (length bytes - at) (drop at bytes)) → u.end + 337 ≤ length u.bytes.now → {v : Text} → Puts ran_most (ticked_text p.cores made) u v → Playing p bytes t whole v made.state (at + n)
    unfolding next
    playing_next made e room {v} h = go y.fuel y.enough y.same
      where
        tick_same : made ≡ tick_asked p y.z.state y.z.left
        tick_same = e ∙ ap (λ (s : State). tick_asked p s (take (length bytes - at) (drop at bytes))) y.states ∙ ap (tick_asked p y.z.state) hand

        line : List ℕ
        line = ticked_text p.cores (tick_asked p y.z.state y.z.left)

        put : Put t (length (y.z.said ++ line)) (y.z.said ++ line) v
        put = put_tight (put_next y.lines (length y.z.said + 337) 337 line (ticked_few p.cores (tick_asked p y.z.state y.z.left)) (rw tick_same at h) (omega arith) (omega (arith, room_is, y.begins, y.lines.size)))

        go : (k : ℕ) → length y.z.left ≤ k → played_in k p (length t.bytes.now) y.z ≡ whole → Playing p bytes t whole v made.state (at + n)
        go zero l q = absurd (omega (arith, size_is y.z.left, good.whole))
        go (suc k) l q = record {
          z = next p y.z;
          fuel = k;
          begins = y.begins;
          enough = omega (arith, length-drop (request_size y.z.left) y.z.left, size_is y.z.left, good.whole);
          same = sym (played_more p (length t.bytes.now) y.z k (omega (arith, room_is, y.lines.size)) accepted) ∙ q;
          states = ap (λ (u : Ticked). u.state) tick_same;
          within = playing_within.0;
          lefts = ap (λ (n : ℕ). drop (at + n) bytes) size ∙ sym (drop-drop (request_size y.z.left) at bytes) ∙ ap (drop (request_size y.z.left)) y.lefts;
          lines = put;
        }

-- the lent bytes may be told otherwise
pub comes_in : {count : ℕ} {bytes lent out text : List ℕ} {z : Standing} {r : Reached} → out ≡ text → Comes count bytes z lent text r → Comes count bytes z lent out r
comes_in e h = rw e h

-- ---- the player then

-- zeros read as zeros
past_zeros : (k i : ℕ) → get_or {A = ℕ} (drop k (replicate 4096 0)) i 0 ≡ 0
past_zeros k i = get_or-drop k (replicate 4096 0) i 0 ∙ replicate_at 4096 (k + i) 0

-- some bytes, copied to the beginning of zeros
pub left_is : (rest moved : List ℕ) → length rest ≤ 4096 → moved ≡ rest → moved ++ drop (length rest) (replicate 4096 0) ≡ padded 4096 (length rest) 0 (λ i. get_or rest i 0)
left_is rest moved few e =
    rw e (padded_is 4096 0 (length rest) _ _ (omega (arith, length-append rest (drop (length rest) (replicate 4096 0)), length-drop {A = ℕ} (length rest) (replicate 4096 0), length-replicate {A = ℕ} 4096 0))
    (λ i l b. get_or-append rest (drop (length rest) (replicate 4096 0)) 0 i l)
    (λ i l b. get_or-append_right rest (drop (length rest) (replicate 4096 0)) i 0 l ∙ past_zeros (length rest) (i - length rest)))

-- made of what playing comes to
abbrev made : Reached → List ℕ → List ℕ → ℕ → Played
made r rest moved place = record { player = record { state = r.state; bytes = moved; count = length rest; place = place }; length = r.length }

-- what is left, as the code moves it to the beginning
pub played_is : (p : Plan) (w : Player) (lent out : List ℕ) (c : ℕ) (r : Reached) (rest moved : List ℕ) (place : ℕ) → c ≡ min w.count 4096 → rest ≡ drop r.at (take c w.bytes)
    → Comes (length (take c w.bytes)) (take c w.bytes) (played_in (length (take c w.bytes)) p (length lent) (beginning w.state (take c w.bytes))) lent out r
    → moved ≡ padded 4096 (length rest) 0 (λ i. get_or rest i 0) → place ≡ further w.place r.at
    → (made r rest moved place ≡ played_on p w (length lent)) × (out ≡ lines_in (played_from p w (length lent)).said lent)
unfolding played_from
played_is p w lent out c r rest moved place hc hr h hm hp = go _ (rw (← hc) h)
  where
    go : (z : Standing) → Comes (length (at_hand w)) (at_hand w) z lent out r → (made r rest moved place ≡ record { player = standing w z; length = length z.said }) × (out ≡ lines_in z.said lent)
    go z k =
        let same : rest ≡ z.left = hr ∙ ap (λ (n : ℕ). drop r.at (take n w.bytes)) hc ∙ k.left in
        let used : length (at_hand w) - length z.left ≡ r.at = omega (arith, k.within, ap length k.left, length-drop r.at (at_hand w)) in
        (rw (used, ← same, k.state, hm, hp, k.long), k.lines)
