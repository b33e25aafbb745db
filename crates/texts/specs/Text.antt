-- The bytes of words and numbers, and a text that is put into lent bytes.
use Rattle.std.specs.Prelude.{cond, List, [], ◌∷◌, ◌++◌, ℕ, zero, suc, ◌+◌, ◌/◌, ◌%◌, ltb, leb, length, take, drop}
use Prim.Native.Char.{code}
use Prim.Native.String.{String, [] as none, ◌∷◌ as ◌then◌}

-- words in ASCII
unfoldable pub ascii : String → List ℕ
ascii none = []
ascii (c then s) = code c ∷ ascii s

-- a number's decimal digits, the most significant first: at most k of them
unfoldable pub digits : ℕ → ℕ → List ℕ
digits zero n = []
digits (suc k) n = cond (ltb n 10) ((48 + n) ∷ []) (digits k (n / 10) ++ ((48 + n % 10) ∷ []))

-- 20 digits hold every number of 64 bits
abbrev pub decimal : ℕ → List ℕ
decimal n = digits 20 n

-- ---- A text is put at a place of some lent bytes if the longest text of its kind has room there. Otherwise nothing is put, and the text so far ends where it did.

-- where the text ends then
unfoldable pub put_end : ℕ → ℕ → List ℕ → List ℕ → ℕ
put_end room at lent text = cond (leb (at + room) (length lent)) (at + length text) at

-- all lent bytes then: those before the text and those after it are as they were
unfoldable pub put_in : ℕ → ℕ → List ℕ → List ℕ → List ℕ
put_in room at lent text = cond (leb (at + room) (length lent)) (take at lent ++ (text ++ drop (at + length text) lent)) lent
