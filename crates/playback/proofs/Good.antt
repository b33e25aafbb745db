-- What a whole and good request is: it is read the same whatever bytes come after it.
use mathlib.Core.Path.{◌≡◌, refl, ap, ◌∙◌}
use mathlib.Core.Bool.{Bool, true, false, ◌||◌, cond}
use mathlib.Core.List.{List, ◌++◌}
use Prim.Native.Nat.{ℕ, ◌+◌, ◌≤◌, ◌<◌}
use native.Mathlib.Omega.{arith}
use borrow.Author.Tests.{ltb-false, le-ltb}
use lib.Dec.{ltb}
use lib.ListN.{length, get_or, length-append, get_or-append}
use Rattle.tasks.specs.Below.{padded}
use Rattle.tasks.specs.Tables.{task_no}
use Rattle.std.specs.Prelude.{Ok, Err}
use Rattle.tasks.specs.Answers.{Answer, Accepted, Refused}
use Rattle.tasks.specs.declared.Place.{Place}
use Rattle.tasks.specs.declared.Refusal.{Refusal}
use Rattle.tasks.specs.declared.Refusal.TheVariants.{CutShort, WrongLength}
use Rattle.tasks.proofs.Padded.{padded_same}
use Rattle.tasks.proofs.Answers.{accepted_not}
use Rattle.playback.specs.Requests.{finishes, releases, tasks_at, finished_in, released_in, request_size, request_answer, if_good}

-- what a judged request's answer is
pub refused_as : (a : Answer) (n : ℕ) (x : Refusal) → if_good a n ≡ Err x → a ≡ Refused x
refused_as (Refused y) n x h = cc
refused_as Accepted n x h = cc

pub accepted_as : (a : Answer) (n m : ℕ) → if_good a n ≡ Ok m → (a ≡ Accepted) × (m ≡ n)
accepted_as (Refused y) n m h = cc
accepted_as Accepted n m h = (refl, cc)

-- both counts are at most 64, and all bytes are there
pub record Good (s : List ℕ) : Type 0 where
  pub finishing : finishes s ≤ 64
  pub releasing : releases s ≤ 64
  pub whole : request_size s ≤ length s

pub size_is : (s : List ℕ) → request_size s ≡ 2 + finishes s + releases s
unfolding request_size
size_is s = refl

answered : (s : List ℕ) (x : Place) (a b c : Bool) → ltb 64 (finishes s) ≡ a → ltb 64 (releases s) ≡ b → ltb (length s) (request_size s) ≡ c
    → cond (a || b) (Refused (WrongLength x)) (cond c (Refused (CutShort x)) Accepted) ≡ Accepted → Good s
answered s x true b c p q r h = accepted_not h
answered s x false true c p q r h = accepted_not h
answered s x false false true p q r h = accepted_not h
answered s x false false false p q r h = record { finishing = ltb-false _ _ p; releasing = ltb-false _ _ q; whole = ltb-false _ _ r }

pub accepted_good : (s : List ℕ) (x : Place) → request_answer s x ≡ Accepted → Good s
unfolding request_answer
accepted_good s x h = answered s x _ _ _ refl refl refl h

module _ (s : List ℕ) (g : Good s) where
  pub good_accepted : (x : Place) → request_answer s x ≡ Accepted
  unfolding request_answer
  good_accepted x = rw (le-ltb 64 (finishes s) g.finishing, le-ltb 64 (releases s) g.releasing, le-ltb (length s) (request_size s) g.whole)

  -- the same request with bytes after it
  module _ (more : List ℕ) where
    byte : (i : ℕ) → i < length s → get_or (s ++ more) i 0 ≡ get_or s i 0
    byte i h = get_or-append s more 0 i h

    same_finishes : finishes (s ++ more) ≡ finishes s
    same_finishes = byte 0 (omega (arith, g.whole, size_is s))

    same_releases : releases (s ++ more) ≡ releases s
    same_releases = ap (λ (n : ℕ). get_or (s ++ more) (1 + n) 0) same_finishes ∙ byte (1 + finishes s) (omega (arith, g.whole, size_is s))

    same_tasks : (at : ℕ) → at + 1 + get_or s at 0 ≤ length s → tasks_at (s ++ more) at ≡ tasks_at s at
    unfolding tasks_at
    same_tasks at h =
        let count : get_or (s ++ more) at 0 ≡ get_or s at 0 = byte at (omega arith) in
        ap (λ (n : ℕ). record { members = padded 64 n (task_no 0) (λ k. task_no (get_or (s ++ more) (at + 1 + k) 0)); count = n }) count
        ∙ ap (λ (ms : List _). record { members = ms; count = get_or s at 0 }) (padded_same 64 (task_no 0) (get_or s at 0) _ _ (λ k l. ap task_no (byte (at + 1 + k) (omega arith))))

    pub size_on : request_size (s ++ more) ≡ request_size s
    size_on = omega (arith, size_is s, size_is (s ++ more), same_finishes, same_releases)

    pub good_on : Good (s ++ more)
    good_on = record { finishing = rw same_finishes g.finishing; releasing = rw same_releases g.releasing; whole = omega (arith, size_on, g.whole, length-append s more) }

    pub finished_on : finished_in (s ++ more) ≡ finished_in s
    finished_on = same_tasks 0 (omega (arith, g.whole, size_is s))

    pub released_on : released_in (s ++ more) ≡ released_in s
    released_on = ap (λ (n : ℕ). tasks_at (s ++ more) (1 + n)) same_finishes ∙ same_tasks (1 + finishes s) (omega (arith, g.whole, size_is s))

-- so many bytes that every good request is whole: what is refused is refused whatever bytes come after it
pub full_same : (s more : List ℕ) (x : Place) → 130 ≤ length s → (request_answer s x ≡ Accepted → ⊥) → request_answer (s ++ more) x ≡ request_answer s x
unfolding request_answer
full_same s more x h refused = go _ refl _ refl
  where
    same : (i : ℕ) → i < length s → get_or (s ++ more) i 0 ≡ get_or s i 0
    same i l = get_or-append s more 0 i l

    first : finishes (s ++ more) ≡ finishes s
    first = same 0 (omega arith)

    go : (a : Bool) → ltb 64 (finishes s) ≡ a → (b : Bool) → ltb 64 (releases s) ≡ b
        → cond (ltb 64 (finishes (s ++ more)) || ltb 64 (releases (s ++ more))) (Refused (WrongLength x)) (cond (ltb (length (s ++ more)) (request_size (s ++ more))) (Refused (CutShort x)) Accepted)
        ≡ cond (ltb 64 (finishes s) || ltb 64 (releases s)) (Refused (WrongLength x)) (cond (ltb (length s) (request_size s)) (Refused (CutShort x)) Accepted)
    go true p b q = rw (first, p)
    go false p true q =
        let next : releases (s ++ more) ≡ releases s = ap (λ (n : ℕ). get_or (s ++ more) (1 + n) 0) first ∙ same (1 + finishes s) (omega (arith, ltb-false 64 (finishes s) p)) in
        rw (next, first, p, q)
    go false p false q =
        let f : finishes s ≤ 64 = ltb-false 64 (finishes s) p in
        let r : releases s ≤ 64 = ltb-false 64 (releases s) q in
        absurd (refused (good_accepted s record { finishing = f; releasing = r; whole = omega (arith, size_is s) } x))
