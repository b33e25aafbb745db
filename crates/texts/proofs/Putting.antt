-- Laws of putting texts into lent bytes: one after another, and a number's digits.
use mathlib.Core.Path.{◌≡◌, refl, sym, ap, ◌∙◌}
use mathlib.Core.Bool.{Bool, true, false, cond}
use mathlib.Core.List.{List, [], ◌∷◌, ◌++◌, append_assoc, append-nil}
use Prim.Native.Nat.{ℕ, zero, suc, min, ◌+◌, ◌*◌, ◌-◌, ◌/◌, ◌%◌, ◌^◌, ◌≤◌, ◌<◌}
use native.Mathlib.Nat.{zero-add, zero-mul, suc-mul, mul-le-mul_right}
use native.Mathlib.Numerals.{add-one}
use native.Mathlib.Omega.{arith}
use native.Mathlib.Decide.{dec_le}
use lib.Dec.{ltb}
use lib.ListN.{length, take, drop, length-append, length-drop, take-append-drop}
use lib.Seq.{take_all, take_at, drop_at, drop-drop, length-take-le}
use borrow.Author.Tests.{le-leb, lt-leb, lt-ltb, le-ltb, ltb-true, ltb-false}
use Rattle.std.specs.Fmt.{decimal as std_decimal}
use Rattle.std.proofs.lemmas.Fmt.{decimal_by_steps}
use Rattle.tasks.specs.Below.{row}
use Rattle.texts.specs.Text.{put_end, put_in, digits, decimal}
use Rattle.texts.specs.Puts.{Puts}
use Rattle.texts.specs.declared.Text.{Text}
use borrow.Rule.Slice.PartMut.{put_mid}

-- ---- whether there is room

pub no_room : {b : Bool} {n m : ℕ} → b ≡ ltb n m → b ≡ true → n < m
no_room {n = n} {m = m} e h = ltb-true n m (sym e ∙ h)

pub has_room : {b : Bool} {n m : ℕ} → b ≡ ltb n m → b ≡ false → m ≤ n
has_room {n = n} {m = m} e h = ltb-false n m (sym e ∙ h)

-- ---- what is put

-- lent bytes with a text in them
abbrev pub within : ℕ → List ℕ → List ℕ → List ℕ
within at lent text = take at lent ++ (text ++ drop (at + length text) lent)

-- with room the text is put, and without it nothing is
pub put_fits : (room at : ℕ) (lent text : List ℕ) → at + room ≤ length lent → (put_end room at lent text ≡ at + length text) × (put_in room at lent text ≡ within at lent text)
unfolding put_end put_in
put_fits room at lent text h = rw (le-leb (at + room) (length lent) h) (refl, refl)

pub put_short : {b : Bool} {room : ℕ} {text : List ℕ} (t : Text) → b ≡ ltb (length t.bytes.now) (t.end + room) → b ≡ true → Puts room text t t
unfolding put_end put_in
put_short {room = room} t e h = let q = lt-leb (t.end + room) (length t.bytes.now) (no_room e h) in record { end = rw q; bytes = rw q; lent = refl }

within_size : (at : ℕ) (lent text : List ℕ) → at + length text ≤ length lent → length (within at lent text) ≡ length lent
within_size at lent text h = length-append (take at lent) _ ∙ omega (arith, length-append text (drop (at + length text) lent), length-take-le at lent (omega arith), length-drop (at + length text) lent)

-- a text of at most `most` bytes was put into t, which then is u
pub record Put (t : Text) (most : ℕ) (text : List ℕ) (u : Text) : Type 0 where
  pub end : u.end ≡ t.end + length text
  pub bytes : u.bytes.now ≡ within t.end t.bytes.now text
  pub few : length text ≤ most
  pub room : t.end + most ≤ length t.bytes.now
  pub size : length u.bytes.now ≡ length t.bytes.now
  pub lent : u.bytes.ghost_name ≡ t.bytes.ghost_name

pub put_none : (t : Text) → t.end ≤ length t.bytes.now → Put t 0 [] t
put_none t h = record { end = omega arith; bytes = rw (omega_zero) (sym (take-append-drop t.end t.bytes.now)); few = omega arith; room = omega arith; size = refl; lent = refl }
  where
    omega_zero : t.end + 0 ≡ t.end
    omega_zero = omega arith

-- one more line of a row
pub row_next : (f : ℕ → List ℕ) (i : ℕ) → row i f ++ f i ≡ row (i + 1) f
unfolding row
row_next f i = rw add-one

more_lines : (i k : ℕ) → i * k + k ≤ (i + 1) * k
more_lines i k = rw (add-one, suc-mul) (omega arith)

-- a text after another
within_twice : (at : ℕ) (lent a b : List ℕ) → at + (length a + length b) ≤ length lent → within (at + length a) (within at lent a) b ≡ within at lent (a ++ b)
within_twice at lent a b h =
    let front : take (at + length a) (within at lent a) ≡ take at lent ++ a = ap (take (at + length a)) (sym (append_assoc (take at lent) a _)) ∙ take_at (take at lent ++ a) _ (at + length a) lf in
    let behind : drop (at + length a) (within at lent a) ≡ drop (at + length a) lent = ap (drop (at + length a)) (sym (append_assoc (take at lent) a _)) ∙ drop_at (take at lent ++ a) _ (at + length a) lf in
    let further : drop (at + length a + length b) (within at lent a) ≡ drop (at + length (a ++ b)) lent =
    rw (length-append) (sym (drop-drop (length b) (at + length a) (within at lent a)) ∙ ap (drop (length b)) behind ∙ drop-drop (length b) (at + length a) lent ∙ ap (λ (n : ℕ). drop n lent) sums) in
    rw (front, further) (append_assoc (take at lent) a _ ∙ ap (λ (l : List ℕ). take at lent ++ l) (sym (append_assoc a b _)))
  where
    lf : length (take at lent ++ a) ≡ at + length a
    lf = length-append (take at lent) a ∙ omega (arith, length-take-le at lent (omega arith))

    sums : at + length a + length b ≡ at + (length a + length b)
    sums = omega arith

-- the next text, of which the longest has room
pub put_next : {t u v : Text} {a : List ℕ} {m : ℕ} → Put t m a u → (all room : ℕ) (b : List ℕ) → length b ≤ room → Puts room b u v → m + room ≤ all → t.end + all ≤ length t.bytes.now → Put t all (a ++ b) v
put_next {t} {u} {v} {a} {m} p all room b small h fits most =
    let told = put_fits room u.end u.bytes.now b (omega (arith, p.end, p.few, p.size)) in
    let long : length (a ++ b) ≡ length a + length b = length-append a b in
    let there : v.bytes.now ≡ within t.end t.bytes.now (a ++ b) = h.bytes ∙ told.1 ∙ ap (λ (n : ℕ). within n u.bytes.now b) p.end ∙ ap (λ (l : List ℕ). within (t.end + length a) l b) p.bytes ∙ within_twice t.end t.bytes.now a b (omega (arith, p.few)) in
    record {
      end = omega (arith, h.end, told.0, p.end);
      bytes = there;
      few = omega (arith, p.few);
      room = most;
      size = ap length there ∙ within_size t.end t.bytes.now (a ++ b) (omega (arith, p.few));
      lent = h.lent ∙ p.lent;
    }

-- all of a text was put, and it had room
pub put_all : {t u : Text} {a : List ℕ} {m : ℕ} → Put t m a u → (text : List ℕ) → a ≡ text → (room : ℕ) → t.end + room ≤ length t.bytes.now → Puts room text t u
put_all {t} p text e room h =
    let told = put_fits room t.end t.bytes.now text h in
    record {
      end = p.end ∙ ap (λ (l : List ℕ). t.end + length l) e ∙ sym told.0;
      bytes = p.bytes ∙ ap (within t.end t.bytes.now) e ∙ sym told.1;
      lent = p.lent;
    }

-- a text that is the first one
pub put_first : {t u : Text} (room : ℕ) (b : List ℕ) → length b ≤ room → t.end + room ≤ length t.bytes.now → Puts room b t u → Put t room b u
put_first {t} room b small most h = put_next (put_none t (omega arith)) room room b small h (omega arith) most

-- two texts, the second of which may be made of many
pub put_then : {t u v : Text} {a b : List ℕ} {m k : ℕ} → Put t m a u → Put u k b v → (all : ℕ) → m + k ≤ all → t.end + all ≤ length t.bytes.now → Put t all (a ++ b) v
put_then {b = b} {k = k} p q all fits most = put_next p all k b q.few (put_all q b refl k q.room) fits most

-- the same text, which may be said to be longer
pub put_same : {t u : Text} {a : List ℕ} {m : ℕ} → Put t m a u → (text : List ℕ) → a ≡ text → (all : ℕ) → m ≤ all → t.end + all ≤ length t.bytes.now → Put t all text u
put_same {t} p text e all fits most = record {
  end = p.end ∙ ap (λ (l : List ℕ). t.end + length l) e;
  bytes = p.bytes ∙ ap (within t.end t.bytes.now) e;
  few = omega (arith, p.few, ap length e);
  room = most;
  size = p.size;
  lent = p.lent;
}

-- no longer than it is
pub put_tight : {t u : Text} {a : List ℕ} {m : ℕ} → Put t m a u → Put t (length a) a u
put_tight p = record { end = p.end; bytes = p.bytes; few = omega arith; room = omega (arith, p.few, p.room); size = p.size; lent = p.lent }

-- lines in a row
pub put_row_none : (t : Text) (k : ℕ) (f : ℕ → List ℕ) → t.end ≤ length t.bytes.now → Put t (0 * k) (row 0 f) t
unfolding row
put_row_none t k f h = rw (zero-mul k) (put_none t h)

pub put_row_next : {t u v : Text} (k : ℕ) (f : ℕ → List ℕ) (i : ℕ) → Put t (i * k) (row i f) u → length (f i) ≤ k → t.end + (i + 1) * k ≤ length t.bytes.now → Puts k (f i) u v → Put t ((i + 1) * k) (row (i + 1) f) v
put_row_next k f i p small most h = put_same (put_next p ((i + 1) * k) k (f i) small h (more_lines i k) most) (row (i + 1) f) (row_next f i) ((i + 1) * k) (omega arith) most

-- what was put in little room is put in more
pub put_wider : {t u : Text} (text : List ℕ) (little room : ℕ) → Puts little text t u → little ≤ room → t.end + room ≤ length t.bytes.now → Puts room text t u
put_wider {t} text little room h l most =
    let near = put_fits little t.end t.bytes.now text (omega arith) in
    let far = put_fits room t.end t.bytes.now text most in
    record { end = h.end ∙ near.0 ∙ sym far.0; bytes = h.bytes ∙ near.1 ∙ sym far.1; lent = h.lent }

-- an empty text changes nothing
pub put_nothing : (room : ℕ) (t : Text) → Puts room [] t t
put_nothing room t = go (dec_le (t.end + room) (length t.bytes.now))
  where
    go : Dec (t.end + room ≤ length t.bytes.now) → Puts room [] t t
    go (yes h) = put_all (put_none t (omega arith)) [] refl room h
    go (no h) = put_short t refl (lt-ltb (length t.bytes.now) (t.end + room) (omega arith))

-- a text at the beginning of lent bytes that have room for it: the bytes up to its end are the whole text
pub put_whole : (room : ℕ) (lent text : List ℕ) → length text ≤ room → room ≤ length lent → take (put_end room 0 lent text) (put_in room 0 lent text) ≡ text
put_whole room lent text small h =
    let told = put_fits room 0 lent text (omega arith) in
    rw (told.0, told.1, zero-add) (take_at text (drop (length text) lent) (length text) refl)

-- words that were copied into a part of the lent bytes
pub words_put : (at : ℕ) (lent words xs : List ℕ) → at + length words ≤ length lent → xs ≡ words → (at + length words ≡ put_end (length words) at lent words) × (put_mid at (at + length words - at) lent xs ≡ put_in (length words) at lent words)
words_put at lent words xs h e =
    let told = put_fits (length words) at lent words h in
    let n : at + length words - at ≡ length words = omega arith in
    (sym told.0, rw (n, e, drop-drop) (sym told.1))

-- ---- a number's digits: those that std writes

digits_same : (n : ℕ) → n < 2 ^ 64 → (k : ℕ) → 0 < k → n < 10 ^ k → std_decimal n ≡ digits k n
unfolding digits
digits_same = decimal_by_steps (λ m ds. (k : ℕ) → 0 < k → m < 10 ^ k → ds ≡ digits k m) one more
  where
    one : (m : ℕ) → m < 10 → (k : ℕ) → 0 < k → m < 10 ^ k → (48 + m) ∷ [] ≡ digits k m
    one m l zero a b = absurd (omega arith)
    one m l (suc k) a b = rw (lt-ltb m 10 l) refl

    more : (m : ℕ) (ds : List ℕ) → 10 ≤ m → ((k : ℕ) → 0 < k → m / 10 < 10 ^ k → ds ≡ digits k (m / 10)) → (k : ℕ) → 0 < k → m < 10 ^ k → ds ++ ((48 + m % 10) ∷ []) ≡ digits k m
    more m ds l h zero a b = absurd (omega arith)
    more m ds l h (suc zero) a b = absurd (omega arith)
    more m ds l h (suc (suc k)) a b = rw (le-ltb m 10 l) (ap (λ (x : List ℕ). x ++ ((48 + m % 10) ∷ [])) (h (suc k) (omega arith) (omega arith)))

-- our definition and std's say the same of every number of 64 bits
pub decimal_same : (n : ℕ) → n < 2 ^ 64 → std_decimal n ≡ decimal n
decimal_same n h = digits_same n h 20 (omega arith) (omega arith)

-- ---- how long numbers and rows are

pub digits_few : (k n : ℕ) → length (digits k n) ≤ k
unfolding digits
digits_few zero n = omega arith
digits_few (suc k) n = go (ltb n 10) (digits_few k (n / 10))
  where
    go : (b : Bool) → length (digits k (n / 10)) ≤ k → length (cond b ((48 + n) ∷ []) (digits k (n / 10) ++ ((48 + n % 10) ∷ []))) ≤ suc k
    go true h = omega arith
    go false h = simp length-append (omega arith)

-- a number next, and words
module _ {t u v : Text} {a : List ℕ} {m : ℕ} (p : Put t m a u) (all : ℕ) where
  pub put_number : (n : ℕ) → Puts 20 (decimal n) u v → m + 20 ≤ all → t.end + all ≤ length t.bytes.now → Put t all (a ++ decimal n) v
  put_number n h = put_next p all 20 (decimal n) (digits_few 20 n) h

  pub put_words : (ws : List ℕ) → Puts (length ws) ws u v → m + length ws ≤ all → t.end + all ≤ length t.bytes.now → Put t all (a ++ ws) v
  put_words ws h = put_next p all (length ws) ws (omega arith) h

-- the digits that std writes at the end of 20 bytes, put as words
pub digits_put : {t u : Text} (n : ℕ) (bytes : List ℕ) (start : ℕ) → n < 2 ^ 64 → start + length (std_decimal n) ≡ 20 → drop start bytes ≡ std_decimal n ++ []
    → Puts (length (take (20 - start) (drop start bytes))) (take (20 - start) (drop start bytes)) t u → t.end + 20 ≤ length t.bytes.now → Puts 20 (decimal n) t u
digits_put {t} {u} n bytes start fits ends same h room =
    let all : drop start bytes ≡ std_decimal n = same ∙ append-nil (std_decimal n) in
    let whole : take (20 - start) (drop start bytes) ≡ decimal n = take_all (20 - start) (drop start bytes) (omega (arith, ap length all)) ∙ all ∙ decimal_same n fits in
    let told : Puts (length (decimal n)) (decimal n) t u = rw whole at h in
    put_wider (decimal n) (length (decimal n)) 20 told (digits_few 20 n) room

-- n lines of at most k bytes
pub row_few : (n k : ℕ) (f : ℕ → List ℕ) → ((i : ℕ) → length (f i) ≤ k) → length (row n f) ≤ n * k
unfolding row
row_few zero k f h = omega arith
row_few (suc n) k f h = simp length-append (omega (arith, row_few n k f h, h n, suc-mul n k))

-- up to m lines
pub rows_few : (n m k : ℕ) (f : ℕ → List ℕ) → ((i : ℕ) → length (f i) ≤ k) → length (row (min n m) f) ≤ m * k
rows_few n m k f h = omega (arith, row_few (min n m) k f h, mul-le-mul_right {m = min n m} {n = m} k (omega arith))
