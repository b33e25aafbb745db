-- A replay's player: where it starts, the bytes at hand, and what the end of the input tells of them.
use Rattle.std.specs.Prelude.{cond, List, ℕ, min, leb, length, take, replicate}
use Rattle.tasks.specs.Places.{place_at}
use Rattle.tasks.specs.Answers.{Answer, Accepted}
use Rattle.dispatch.specs.States.{fresh_state}
use Rattle.playback.specs.Requests.{request_answer}
use Rattle.playback.specs.declared.Player.{Player}

-- how many bytes a player has at hand at most
abbrev pub held : ℕ
held = 4096

-- the bytes at hand of a player
abbrev pub at_hand : Player → List ℕ
at_hand w = take (min w.count held) w.bytes

abbrev pub start : ℕ → Player
start n = record { state = fresh_state; bytes = replicate held 0; count = 0; place = n }

-- at the end of the input: accepted if nothing is left, otherwise what the bytes left are judged as
unfoldable pub last_answer : Player → Answer
last_answer w = cond (leb (length (at_hand w)) 0) Accepted (request_answer (at_hand w) (place_at w.place))
