-- How long a refusal's line can be, and the line of an answer.
use mathlib.Core.Path.{◌≡◌}
use mathlib.Core.List.{List, [], ◌++◌, append-nil}
use Prim.Native.Nat.{ℕ, ◌+◌, ◌≤◌}
use native.Mathlib.Omega.{arith}
use lib.ListN.{length, take, length-append}
use Rattle.tasks.specs.Refusals.{Told, place, task, given, needed, nothing, number, tells}
use Rattle.std.specs.Prelude.{Result, Ok, Err}
use Rattle.tasks.specs.declared.Refusal.{Refusal}
use Rattle.texts.specs.Text.{put_end, put_in, ascii, decimal}
use Rattle.texts.specs.Puts.{Puts}
use Rattle.texts.specs.declared.Text.{Text}
use Rattle.texts.specs.Telling.{told_text, told_most, refusal_text, refusal_most, answer_text}
use Rattle.texts.proofs.Putting.{digits_few, put_wider, put_whole}

-- ---- how long it can be

tells_few : (x : Told) → length (told_text x) ≤ 27
unfolding told_text ascii
tells_few (place p) = omega (arith, digits_few 20 p)
tells_few (task i) = omega (arith, digits_few 20 i)
tells_few (given n) = omega (arith, digits_few 20 n)
tells_few (needed n) = omega (arith, digits_few 20 n)
tells_few nothing = omega arith

pub told_few : (x : Refusal) → length (decimal (number x) ++ told_text (tells x)) ≤ told_most
told_few x = simp length-append (omega (arith, digits_few 20 (number x), tells_few (tells x)))

pub refusal_few : (x : Refusal) → length (refusal_text x) ≤ refusal_most
unfolding refusal_text ascii
refusal_few x = simp length-append (omega (arith, digits_few 20 (number x), tells_few (tells x)))

pub answer_few : {A : Type 0} (a : Result A Refusal) (said : A → List ℕ) (k : ℕ) → refusal_most ≤ k → ((x : A) → length (said x) ≤ k) → length (answer_text a said) ≤ k
answer_few (Err x) said k h l = omega (arith, refusal_few x)
answer_few (Ok x) said k h l = l x

-- a refusal's line is printed whole: what stands in the lent bytes, up to the end that is answered
pub refusal_whole : (x : Refusal) (lent : List ℕ) → refusal_most ≤ length lent → take (put_end refusal_most 0 lent (refusal_text x)) (put_in refusal_most 0 lent (refusal_text x)) ≡ refusal_text x
refusal_whole x lent h = put_whole refusal_most lent (refusal_text x) (refusal_few x) h

-- a refusal's number where it tells nothing
pub told_none : {t u : Text} (n : ℕ) → Puts 20 (decimal n) t u → t.end + told_most ≤ length t.bytes.now → Puts told_most (decimal n ++ []) t u
told_none n h most = rw append-nil (put_wider (decimal n) 20 told_most h (omega arith) most)

-- ---- an answer's line: what is said, or a refusal's line, for which there is room where there is room for the longest

module _ {A : Type 0} {t u : Text} (a : Result A Refusal) (said : A → List ℕ) (room : ℕ) where
  pub accepted_put : (x : A) → a ≡ Ok x → Puts room (said x) t u → Puts room (answer_text a said) t u
  accepted_put x e h = rw e h

  pub refused_put : (x : Refusal) → a ≡ Err x → Puts refusal_most (refusal_text x) t u → refusal_most ≤ room → t.end + room ≤ length t.bytes.now → Puts room (answer_text a said) t u
  refused_put x e h l most = rw e (put_wider (refusal_text x) refusal_most room h l most)
