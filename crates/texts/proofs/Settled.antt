-- Each public contract settles its result and the lent bytes.
use contract.Lifetimes.{Lfts}
use mathlib.Core.Path.{◌≡◌}
use Rattle.tasks.proofs.Settling.{Settles, Lends, settled}
use Rattle.texts.proofs.Text.is_short.Reads as is-short
use Rattle.texts.proofs.Text.said.Reads as said
use Rattle.texts.proofs.Text.words.Reads as words
use Rattle.texts.proofs.Text.number.Reads as number
use Rattle.texts.proofs.Text.refusal.Reads as refusal

pub is_short_settled : (κ : Lfts 2) → Settles (is-short.Post κ)
is_short_settled κ x e r s p q = settled p q

-- the bytes that are given
pub said_settled : (κ : Lfts 2) (x : _) (e f : _) (r s : _) → said.Post κ x r e → said.Post κ x s f → r.now ≡ s.now
said_settled κ x e f r s p q = settled p q

-- where the text ends, and the bytes that it is in
pub words_settled : (κ : Lfts 3) → Lends (words.Post κ) (λ e. e.0.now.end)
words_settled κ x e f r s p q = settled p.end q.end

pub words_bytes_settled : (κ : Lfts 3) → Lends (words.Post κ) (λ e. e.0.now.bytes.now)
words_bytes_settled κ x e f r s p q = settled p.bytes q.bytes

pub number_settled : (κ : Lfts 2) → Lends (number.Post κ) (λ e. e.0.now.end)
number_settled κ x e f r s p q = settled p.end q.end

pub number_bytes_settled : (κ : Lfts 2) → Lends (number.Post κ) (λ e. e.0.now.bytes.now)
number_bytes_settled κ x e f r s p q = settled p.bytes q.bytes

pub refusal_settled : (κ : Lfts 2) → Lends (refusal.Post κ) (λ e. e.0.now.end)
refusal_settled κ x e f r s p q = settled p.end q.end

pub refusal_bytes_settled : (κ : Lfts 2) → Lends (refusal.Post κ) (λ e. e.0.now.bytes.now)
refusal_bytes_settled κ x e f r s p q = settled p.bytes q.bytes
