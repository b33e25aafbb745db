-- What a replay prints where its input is cut or bad, byte for byte.
use mathlib.Core.Path.{◌≡◌, refl}
use mathlib.Core.List.{List, [], ◌∷◌, ◌++◌}
use Prim.Native.Nat.{ℕ, suc, ◌+◌, ◌*◌, ◌<◌, ◌≤◌}
use native.Mathlib.Omega.{arith}
use lib.ListN.{length, get_or, get_or-eq_default}
use borrow.Author.Tests.{lt-leb, lt-ltb, le-ltb}
use Rattle.plans.specs.declared.Plan.{Plan}
use Rattle.files.specs.declared.Default.{Default}
use Rattle.dispatch.specs.declared.State.{State}
use Rattle.texts.specs.Telling.{told_text, refusal_text}
use Rattle.texts.specs.Text.{ascii, digits, decimal}
use Rattle.ticklines.specs.Lines.{totals_text}
use Rattle.playback.specs.Replay.{ticks_text, replay_text}
use Rattle.playback.specs.Requests.{request_size, request_answer}

-- the input ends before the plan file is whole, or even before its length is told
pub cut_before_plan : (d : Default) (bs : List ℕ) → length bs < 2 + (get_or bs 0 0 * 256 + get_or bs 1 0) → replay_text d bs ≡ ascii "refused 1 at 0\n"
unfolding replay_text refusal_text told_text ascii digits
cut_before_plan d bs h = rw (lt-ltb (length bs) (2 + (get_or bs 0 0 * 256 + get_or bs 1 0)) h)

module _ (k : ℕ) (p : Plan) (n : ℕ) (s : State) where
  -- nothing more is asked: the totals
  pub nothing_asked : ticks_text (suc k) p n s [] ≡ totals_text s
  unfolding ticks_text
  nothing_asked = refl

  -- a request of more than 64 finished tasks: 3 with the place of its first byte, then the totals
  pub too_many_finished : (a : ℕ) (bs : List ℕ) → 64 < a → ticks_text (suc k) p n s (a ∷ bs) ≡ (ascii "refused 3 at " ++ (decimal n ++ ascii "\n")) ++ totals_text s
  unfolding ticks_text request_answer refusal_text told_text ascii digits
  too_many_finished a bs h = rw (lt-leb (suc (length bs)) 0 (omega arith), lt-ltb 64 a h)

  -- the input ends inside a request: 1 with the place of its first byte, then the totals
  pub cut_in_request : (a : ℕ) (bs : List ℕ) → a ≤ 64 → length bs ≤ a → ticks_text (suc k) p n s (a ∷ bs) ≡ (ascii "refused 1 at " ++ (decimal n ++ ascii "\n")) ++ totals_text s
  unfolding ticks_text request_answer request_size refusal_text told_text ascii digits
  cut_in_request a bs few short =
      let past : length (a ∷ bs) ≤ 1 + a = omega arith in
      let none : get_or (a ∷ bs) (1 + a) 0 ≡ 0 = get_or-eq_default (a ∷ bs) 0 past in
      rw (lt-leb (suc (length bs)) 0 (omega arith), none, le-ltb 64 a few, lt-ltb (suc (length bs)) (2 + a + 0) (omega arith))
