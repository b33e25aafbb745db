-- Rank on a core is a strict total order, and which pieces can never stand above a share.
use mathlib.Core.Path.{◌≡◌, refl, sym, ◌∙◌}
use mathlib.Core.Logic.{◌⊎◌, inl, inr}
use mathlib.Core.Bool.{Bool, true, false, ◌&&◌}
use Prim.Native.Nat.{ℕ, ◌≤◌, ◌<◌}
use native.Mathlib.Decide.{dec_lt, ℕ_discrete}
use native.Mathlib.Nat.{le_refl}
use native.Mathlib.Omega.{arith}
use lib.Dec.{ltb, eqb}
use borrow.Author.Tests.{eq-eqb, ne_eqb, eqb-true, lt-ltb, le-ltb, ltb-true}
use Rattle.tasks.proofs.Bools.{clash, both, both_make, not_first, not_second, one_of, left_one, right_one}
use Rattle.tasks.specs.declared.Task.{Task}
use Rattle.plans.specs.Rank.{outranks, above}
use Rattle.plans.specs.declared.Kind.{Kind}
use Rattle.plans.specs.declared.Kind.TheVariants.{Whole, Share}
use Rattle.plans.specs.declared.Piece.{Piece}

-- whole pieces: by d, then by task
sooner : (d i e k : ℕ) → Type 0
sooner d i e k = (d < e) ⊎ ((d ≡ e) × (i < k))

whole_says : (d i e k : ℕ) → outranks Whole d i Whole e k ≡ true → sooner d i e k
unfolding sooner
whole_says d i e k h = go (one_of h)
  where
    go : (ltb d e ≡ true) ⊎ (eqb d e && ltb i k ≡ true) → sooner d i e k
    go (inl a) = inl (ltb-true _ _ a)
    go (inr b) = let t : (eqb d e ≡ true) × (ltb i k ≡ true) = both {a = eqb d e} b in inr (eqb-true _ _ t.0, ltb-true _ _ t.1)

whole_make : (d i e k : ℕ) → sooner d i e k → outranks Whole d i Whole e k ≡ true
unfolding sooner
whole_make d i e k (inl a) = left_one _ (lt-ltb _ _ a)
whole_make d i e k (inr b) = right_one (ltb d e) (both_make (eq-eqb _ _ b.0) (lt-ltb _ _ b.1))

sooner_chain : (d i e j f k : ℕ) → sooner d i e j → sooner e j f k → sooner d i f k
unfolding sooner
sooner_chain d i e j f k (inl a) (inl b) = inl (omega arith)
sooner_chain d i e j f k (inl a) (inr b) = inl (omega arith)
sooner_chain d i e j f k (inr a) (inl b) = inl (omega arith)
sooner_chain d i e j f k (inr a) (inr b) = inr (omega arith, omega arith)

outranks_chain : (a b c : Kind) (d i e j f k : ℕ) → outranks a d i b e j ≡ true → outranks b e j c f k ≡ true → outranks a d i c f k ≡ true
outranks_chain Share Share Share d i e j f k h l = lt-ltb k i (omega (arith, ltb-true j i h, ltb-true k j l))
outranks_chain Share b Whole d i e j f k h l = refl
outranks_chain Share Whole Share d i e j f k h l = clash refl (sym l)
outranks_chain Whole Share c d i e j f k h l = clash refl (sym h)
outranks_chain Whole Whole Share d i e j f k h l = clash refl (sym l)
outranks_chain Whole Whole Whole d i e j f k h l = whole_make d i f k (sooner_chain d i e j f k (whole_says d i e j h) (whole_says e j f k l))

outranks_self : (a : Kind) (d i : ℕ) → outranks a d i a d i ≡ false
outranks_self Share d i = le-ltb _ _ (le_refl i)
outranks_self Whole d i = rw (le-ltb d d (le_refl _), le-ltb i i (le_refl i)) (not_second (eqb d d) refl)

outranks_total : (a b : Kind) (d i e k : ℕ) → (i ≡ k → ⊥) → (outranks a d i b e k ≡ true) ⊎ (outranks b e k a d i ≡ true)
unfolding sooner
outranks_total Share Whole d i e k n = inl refl
outranks_total Whole Share d i e k n = inr refl
outranks_total Share Share d i e k n = go (dec_lt k i)
  where
    go : Dec (k < i) → (ltb k i ≡ true) ⊎ (ltb i k ≡ true)
    go (yes h) = inl (lt-ltb _ _ h)
    go (no h) = inr (lt-ltb i k (omega arith))
outranks_total Whole Whole d i e k n = go (dec_lt d e) (ℕ_discrete d e) (dec_lt i k)
  where
    go : Dec (d < e) → Dec (d ≡ e) → Dec (i < k) → (outranks Whole d i Whole e k ≡ true) ⊎ (outranks Whole e k Whole d i ≡ true)
    go (yes h) q l = inl (whole_make d i e k (inl h))
    go (no h) (no q) l = inr (whole_make e k d i (inl (omega arith)))
    go (no h) (yes q) (yes l) = inl (whole_make d i e k (inr (q, l)))
    go (no h) (yes q) (no l) = inr (whole_make e k d i (inr (sym q, omega arith)))

module _ (ts : ℕ → Task) where
  -- a outranks b, wherever they are
  abbrev outranking : Piece → Piece → Bool
  outranking a b = outranks a.kind (ts a.task.0).deadline a.task.0 b.kind (ts b.task.0).deadline b.task.0

  pub above_core : (a b : Piece) → above ts a b ≡ true → a.core.0 ≡ b.core.0
  unfolding above
  above_core a b h = eqb-true _ _ (both {a = eqb a.core.0 b.core.0} h).0

  -- pieces on two cores are not ranked
  pub above_apart : (a b : Piece) → (a.core.0 ≡ b.core.0 → ⊥) → above ts a b ≡ false
  unfolding above
  above_apart a b h = not_first _ (ne_eqb a.core.0 b.core.0 h)

  above_rank : (a b : Piece) → above ts a b ≡ true → outranking a b ≡ true
  unfolding above
  above_rank a b h = (both {a = eqb a.core.0 b.core.0} h).1

  -- nothing is above itself
  pub above_self : (a : Piece) → above ts a a ≡ false
  unfolding above
  above_self a = not_second (eqb a.core.0 a.core.0) (outranks_self a.kind _ a.task.0)

  -- what is above a piece that is above a third is above the third
  pub above_chain : (a b c : Piece) → above ts a b ≡ true → above ts b c ≡ true → above ts a c ≡ true
  unfolding above
  above_chain a b c h l = both_make (eq-eqb _ _ (above_core a b h ∙ above_core b c l)) (outranks_chain a.kind b.kind c.kind _ _ _ _ _ _ (above_rank a b h) (above_rank b c l))

  -- of two tasks' pieces on a core one is above the other
  pub above_total : (a b : Piece) → a.core.0 ≡ b.core.0 → (a.task.0 ≡ b.task.0 → ⊥) → (above ts a b ≡ true) ⊎ (above ts b a ≡ true)
  unfolding above
  above_total a b e n = go (outranks_total a.kind b.kind _ a.task.0 _ b.task.0 n)
    where
      go : (outranking a b ≡ true) ⊎ (outranking b a ≡ true) → (above ts a b ≡ true) ⊎ (above ts b a ≡ true)
      go (inl h) = inl (both_make (eq-eqb _ _ e) h)
      go (inr h) = inr (both_make (eq-eqb _ _ (sym e)) h)

  -- and never each above the other
  pub above_one_way : (a b : Piece) → above ts a b ≡ true → above ts b a ≡ false
  above_one_way a b h = go (above ts b a) refl
    where
      go : (x : Bool) → above ts b a ≡ x → above ts b a ≡ false
      go false e = e
      go true e = clash (above_chain a b a h e) (above_self a)

  -- no piece of an earlier or the same task is above a share
  pub above_share : (a z : Piece) → z.kind ≡ Share → a.task.0 ≤ z.task.0 → above ts a z ≡ false
  unfolding above
  above_share a z s h = not_second (eqb a.core.0 z.core.0) (rw s (go a.kind))
    where
      go : (x : Kind) → outranks x (ts a.task.0).deadline a.task.0 Share (ts z.task.0).deadline z.task.0 ≡ false
      go Share = le-ltb _ _ h
      go Whole = refl

  -- no whole piece is above a share
  pub above_whole : (a z : Piece) → a.kind ≡ Whole → z.kind ≡ Share → above ts a z ≡ false
  unfolding above
  above_whole a z s t = not_second (eqb a.core.0 z.core.0) (rw (s, t))
