-- A replay: the length of a plan file in two bytes, high first, that plan file, and then ticks to the end of the input.
use Rattle.std.specs.Prelude.{Result, ◌≡◌, ◌⊎◌, cond, List, [], ◌++◌, ℕ, zero, suc, ◌+◌, ◌-◌, ◌*◌, ◌≤◌, ltb, leb, length, get_or, take, drop}
use Rattle.tasks.specs.Below.{padded}
use Rattle.tasks.specs.Answers.{Answer, Accepted, Refused}
use Rattle.tasks.specs.declared.Refusal.{Refusal}
use Rattle.tasks.specs.declared.Refusal.TheVariants.{CutShort}
use Rattle.plans.specs.declared.Plan.{Plan}
use Rattle.tasks.specs.Places.{place_at, further}
use Rattle.files.specs.Files.{plan_read}
use Rattle.files.specs.declared.Default.{Default}
use Rattle.dispatch.specs.States.{fresh_state}
use Rattle.dispatch.specs.Tick.{tick}
use Rattle.dispatch.specs.declared.State.{State}
use Rattle.dispatch.specs.declared.Ticked.{Ticked}
use Rattle.ticklines.specs.Lines.{ran_most, ticked_text, totals_text}
use Rattle.texts.specs.Telling.{answer_text, refusal_text}
use Rattle.playback.specs.Requests.{finished_in, released_in, request_size, request_answer}
use Rattle.playback.specs.Players.{held, at_hand, last_answer}
use Rattle.playback.specs.declared.Played.{Played}
use Rattle.playback.specs.declared.Player.{Player}
use Rattle.playback.specs.declared.Reached.{Reached}

-- the tick that the next bytes ask for
abbrev pub tick_asked : Plan → State → List ℕ → Ticked
tick_asked p s bs = tick p s (finished_in bs) (released_in bs)

-- ---- the whole input

-- after a request that is not whole or not good its refusal and the totals come; otherwise there is more
abbrev pub closed : Answer → State → List ℕ → List ℕ
closed (Refused x) s more = refusal_text x ++ totals_text s
closed Accepted s more = more

-- ticks to the end of the input, whose next byte stands at n: each prints its line, and the last line is the totals. k bounds how many there may be
unfoldable pub ticks_text : ℕ → Plan → ℕ → State → List ℕ → List ℕ
ticks_text zero p n s bs = totals_text s
ticks_text (suc k) p n s bs =
    cond (leb (length bs) 0) (totals_text s)
    (closed (request_answer bs (place_at n)) s
    (ticked_text p.cores (tick_asked p s bs) ++ ticks_text k p (n + request_size bs) (tick_asked p s bs).state (drop (request_size bs) bs)))

-- how long the plan file is said to be
abbrev pub told : List ℕ → ℕ
told bs = get_or bs 0 0 * 256 + get_or bs 1 0

abbrev pub opened : Result Plan Refusal → List ℕ → List ℕ
opened r bs = answer_text r (λ p. ticks_text (length bs) p (2 + told bs) fresh_state (drop (2 + told bs) bs))

-- what is printed for an input, with the stated default: 1 at 0 if it ends before the plan file is whole, the plan file's refusal, or its ticks from a fresh state
unfoldable pub replay_text : Default → List ℕ → List ℕ
replay_text d bs =
    cond (ltb (length bs) (2 + told bs)) (refusal_text (CutShort (place_at 0)))
    (opened (plan_read d (take (told bs) (drop 2 bs))) bs)

-- ---- the part of the input that is at hand

-- where a replay stands: the state, the bytes to come, and what has been printed
pub record Standing : Type 0 where
  pub state : State
  pub left : List ℕ
  pub said : List ℕ

-- the next request is played
abbrev pub after : Plan → Standing → Ticked → Standing
after p z t = record { state = t.state; left = drop (request_size z.left) z.left; said = z.said ++ ticked_text p.cores t }

unfoldable pub next : Plan → Standing → Standing
next p z = after p z (tick_asked p z.state z.left)

-- the next request is played if it is whole and good; otherwise the replay stays where it stands
abbrev pub goes_on : Answer → Standing → Standing → Standing
goes_on (Refused x) more z = z
goes_on Accepted more z = more

-- whole requests are played as long as the longest line has room in so many bytes after what was printed. k bounds how many there may be
unfoldable pub played_in : ℕ → Plan → ℕ → Standing → Standing
played_in zero p room z = z
played_in (suc k) p room z = cond (ltb room (length z.said + ran_most)) z (goes_on (request_answer z.left (place_at 0)) (played_in k p room (next p z)) z)

-- a replay that has printed nothing yet of some bytes
abbrev pub beginning : State → List ℕ → Standing
beginning s bs = record { state = s; left = bs; said = [] }

-- what becomes of the bytes at hand in so much room: each request has a byte at least
unfoldable pub played_from : Plan → Player → ℕ → Standing
played_from p w room = played_in (length (at_hand w)) p room (beginning w.state (at_hand w))

-- a player that stands there, what is left being at the beginning
abbrev pub standing : Player → Standing → Player
standing w z = record {
  state = z.state;
  bytes = padded held (length z.left) 0 (λ i. get_or z.left i 0);
  count = length z.left;
  place = further w.place (length (at_hand w) - length z.left);
}

-- the player then, and how long its lines are
abbrev pub played_on : Plan → Player → ℕ → Played
played_on p w room = record { player = standing w (played_from p w room); length = length (played_from p w room).said }

-- lent bytes that begin with its lines; those after them are as they were
abbrev pub lines_in : List ℕ → List ℕ → List ℕ
lines_in lines lent = lines ++ drop (length lines) lent

-- what playing the first bytes of some comes to: where it stands, told by what is left of them and by the lent bytes, which begin with its lines
pub record Comes (count : ℕ) (bytes : List ℕ) (z : Standing) (lent out : List ℕ) (r : Reached) : Type 0 where
  pub state : r.state ≡ z.state
  pub within : r.at ≤ count
  pub left : drop r.at bytes ≡ z.left
  pub long : r.length ≡ length z.said
  pub lines : out ≡ lines_in z.said lent

-- ---- a replay in parts

-- what is printed from a player on, the rest of the input being unread: parts of the input are read, as much is played as there is room for, and at the end of the input, or with all bytes at hand that there may be,
-- no whole request is left
pub data Parts (p : Plan) : Player → List ℕ → List ℕ → Type 0 where
  reads : (w v : Player) (part more text : List ℕ) → v.state ≡ w.state → v.place ≡ w.place → at_hand v ≡ at_hand w ++ part → Parts p v more text → Parts p w (part ++ more) text
  plays : (w : Player) (room : ℕ) (more text : List ℕ) → Parts p (played_on p w room).player more text → Parts p w more ((played_from p w room).said ++ text)
  closes : (w : Player) (more : List ℕ) → (more ≡ []) ⊎ (held ≤ length (at_hand w)) → (request_answer (at_hand w) (place_at 0) ≡ Accepted → ⊥) → Parts p w more (closed (last_answer w) w.state (totals_text w.state))
