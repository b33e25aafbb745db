-- The bytes of a field that was found good are those that the writer writes for what it holds.
use mathlib.Core.Path.{◌≡◌, refl, sym, ap, ◌∙◌}
use mathlib.Core.Bool.{Bool, true, false, not, ◌&&◌, cond}
use mathlib.Core.List.{List, [], ◌∷◌, ◌++◌}
use Prim.Native.Nat.{ℕ, ◌+◌, ◌≤◌, ◌<◌}
use native.Mathlib.Decide.{ℕ_discrete}
use native.Mathlib.Omega.{arith}
use lib.Dec.{leb, ltb, eqb}
use lib.ListN.{length, get_or, take}
use lib.Seq.{length-take-le, get_or-take}
use borrow.Author.Tests.{ltb-true, ne_eqb}
use Rattle.tasks.proofs.Bools.{both}
use Rattle.tasks.proofs.Padded.{tabulate_is}
use Rattle.tasks.specs.Below.{tabulate}
use Rattle.files.specs.Grammar.{number2, number4, length_for, kind_of}
use Rattle.files.specs.Fields.{tag, tag_fits, task_in, piece_in, values, verdict, piece_taken}
use Rattle.files.proofs.Found.{values_not_one}
use Rattle.writing.specs.Fields.{bytes4, kind_byte, core_field, task_field, piece_field}
use Rattle.files.specs.declared.Field.{Field}
use Rattle.trips.proofs.Numbers.{bytes_back}

-- ---- what a verdict says

-- a field that waits is not whole
waits_test : (b : Bool) (x v : ℕ) → 1 < x → cond b x v ≡ 1 → v ≡ 1
waits_test true x v l h = absurd (omega arith)
waits_test false x v l h = h

pub waits_short : (f : Field) (n : ℕ) → verdict f n ≡ 1 → f.count < 3 + length_for (tag f)
unfolding verdict
waits_short f n h = first _ refl
  where
    last : (b : Bool) → ltb f.count (3 + length_for (tag f)) ≡ b → cond b 1 (values f) ≡ 1 → f.count < 3 + length_for (tag f)
    last true q k = ltb-true _ _ q
    last false q k = absurd (values_not_one f.bytes k)

    first : (b : Bool) → ltb f.count 3 ≡ b → f.count < 3 + length_for (tag f)
    first true q = omega (arith, ltb-true f.count 3 q)
    first false q = last _ refl (waits_test (not (eqb (number2 f.bytes 1) (length_for (tag f)))) 3 _ (omega arith) (waits_test (eqb (tag f) 2 && leb 64 n) 6 _ (omega arith) (waits_test (not (tag_fits f)) 2 _ (omega arith) (rw q at h))))

-- a piece that is taken is no 129th
pub piece_room : (f : Field) (n : ℕ) → piece_taken f n ≡ true → n < 128
unfolding piece_taken
piece_room f n h = ltb-true n 128 (both {a = ltb (get_or f.bytes 5 0) 2} h).1

-- and its kind is 0 or 1
pub piece_kind : (f : Field) (n : ℕ) → piece_taken f n ≡ true → get_or f.bytes 5 0 < 2
unfolding piece_taken
piece_kind f n h = ltb-true (get_or f.bytes 5 0) 2 (both {b = ltb n 128} h).0

-- ---- the bytes of a field

listed : (k : ℕ) (xs : List ℕ) → k ≤ length xs → take k xs ≡ tabulate k (λ i. get_or xs i 0)
listed k xs h = tabulate_is k _ (take k xs) 0 (length-take-le k xs h) (λ i l. get_or-take k xs i 0 l)

kind_forth : (b : ℕ) → b < 2 → kind_byte (kind_of b) ≡ b
kind_forth b h = go (ℕ_discrete b 1)
  where
    go : Dec (b ≡ 1) → kind_byte (kind_of b) ≡ b
    go (yes e) = rw e
    go (no e) = rw (ne_eqb b 1 e) (omega arith)

module _ (f : Field) (size : length f.bytes ≡ 15) (small : (i : ℕ) → get_or f.bytes i 0 < 256) where
  length_bytes : (n : ℕ) → n < 256 → number2 f.bytes 1 ≡ n → (get_or f.bytes 1 0 ≡ 0) × (get_or f.bytes 2 0 ≡ n)
  length_bytes n h e = (omega (arith, small 1, small 2), omega (arith, small 1, small 2))

  abbrev listed4 : ℕ → List ℕ
  listed4 i = get_or f.bytes i 0 ∷ get_or f.bytes (i + 1) 0 ∷ get_or f.bytes (i + 2) 0 ∷ get_or f.bytes (i + 2 + 1) 0 ∷ []

  four : (i : ℕ) → bytes4 (number4 f.bytes i) ≡ listed4 i
  four i = bytes_back _ _ _ _ (small i) (small (i + 1)) (small (i + 2)) (small (i + 2 + 1))

  pub core_text : tag f ≡ 1 → number2 f.bytes 1 ≡ length_for (tag f) → take 4 f.bytes ≡ core_field (get_or f.bytes 3 0)
  unfolding core_field tabulate
  core_text t n = let b : (get_or f.bytes 1 0 ≡ 0) × (get_or f.bytes 2 0 ≡ 1) = length_bytes 1 (omega arith) (rw t at n) in listed 4 f.bytes (omega arith) ∙ rw (t, b.0, b.1)

  pub task_text : tag f ≡ 2 → number2 f.bytes 1 ≡ length_for (tag f) → take 15 f.bytes ≡ task_field (task_in f)
  unfolding task_field tabulate
  task_text t n =
      let b : (get_or f.bytes 1 0 ≡ 0) × (get_or f.bytes 2 0 ≡ 12) = length_bytes 12 (omega arith) (rw t at n) in
      let second : bytes4 (number4 f.bytes 7) ++ bytes4 (number4 f.bytes 11) ≡ listed4 7 ++ listed4 11 = ap (λ (x : List ℕ). x ++ bytes4 (number4 f.bytes 11)) (four 7) ∙ ap (λ (x : List ℕ). listed4 7 ++ x) (four 11) in
      let body : bytes4 (number4 f.bytes 3) ++ (bytes4 (number4 f.bytes 7) ++ bytes4 (number4 f.bytes 11)) ≡ listed4 3 ++ (listed4 7 ++ listed4 11) = ap (λ (x : List ℕ). x ++ (bytes4 (number4 f.bytes 7) ++ bytes4 (number4 f.bytes 11))) (four 3) ∙ ap (λ (x : List ℕ). listed4 3 ++ x) second in
      listed 15 f.bytes (omega arith) ∙ rw (t, b.0, b.1) (sym (ap (λ (x : List ℕ). 2 ∷ 0 ∷ 12 ∷ x) body))

  pub piece_text_lem : tag f ≡ 3 → number2 f.bytes 1 ≡ length_for (tag f) → get_or f.bytes 5 0 < 2 → take 10 f.bytes ≡ piece_field (piece_in f)
  unfolding piece_field tabulate
  piece_text_lem t n k = let b : (get_or f.bytes 1 0 ≡ 0) × (get_or f.bytes 2 0 ≡ 7) = length_bytes 7 (omega arith) (rw t at n) in listed 10 f.bytes (omega arith) ∙ rw (t, b.0, b.1, four 6, kind_forth _ k)
