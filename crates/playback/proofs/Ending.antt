-- What the end of the input tells.
use mathlib.Core.Path.{◌≡◌}
use Prim.Native.Nat.{ℕ, ◌<◌, min}
use native.Mathlib.Omega.{arith}
use borrow.Author.Tests.{le-leb, lt-leb}
use lib.ListN.{length, take, length-take}
use Rattle.tasks.specs.Places.{place_at}
use Rattle.tasks.specs.Answers.{Answer, Accepted}
use Rattle.playback.specs.Requests.{request_answer}
use Rattle.playback.specs.Players.{held, at_hand, last_answer}
use Rattle.playback.specs.declared.Player.{Player}

pub last_none : (w : Player) (k : ℕ) → k ≡ min w.count held → k ≡ 0 → Accepted ≡ last_answer w
unfolding last_answer
last_none w k e z = rw (le-leb (length (at_hand w)) 0 (omega (arith, length-take (min w.count held) w.bytes)))

pub last_some : (w : Player) (k : ℕ) (a : Answer) → length w.bytes ≡ held → k ≡ min w.count held → (k ≡ 0 → ⊥) → a ≡ request_answer (take k w.bytes) (place_at w.place) → a ≡ last_answer w
unfolding last_answer
last_some w k a full e some h =
    let long : 0 < length (at_hand w) = omega (arith, length-take (min w.count held) w.bytes, some) in
    rw (lt-leb (length (at_hand w)) 0 long, h, e)
