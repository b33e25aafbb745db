-- What the walks by hand share: the plain types, calls of covered functions with plain values, and what is heard of their answers.
-- Assumes nothing.
use mathlib.Core.Path.{◌≡◌, refl, ◌∙◌, ap, subst}
use mathlib.Core.Bool.{Bool, true, false}
use mathlib.Core.List.{List, [], ◌∷◌}
use Prim.Native.Nat.{ℕ, zero, suc, ◌+◌}
use native.Mathlib.Nat.{add-zero, add-suc}
use lib.Dec.{T as Holds}
use seplogic.Ra.Ura.{Ura}
use mir.Syntax.{Ty, w64, ty_int}
use mir.Val.{Val}
use base.Logic.{SProp, ent, sep, ex, guard, emp, id⊢, via, ex_e, guard_i, emp∗, comm∗, mono_l, mono_r, snd∗}
use base.Fml.{ftrue}
use types.Logic.{Logic, sem}
use contract.Lifetimes.{Lfts}
use contract.Monad.{fact}
use types.Kit.{Goal, prop, Step, step, updating, now, Soaks, Item, ‵, raw, some, later, ◌⊛◌, mean, Seq, ◌$◌, ◌∵◌, !, qed, by, use1, await, pick, split, move}
use denote.RattleType.{RattleType, Denots, Valss, owns}
use denote.Laws.{Is, Ises, Are, Tells, Typed, Makes, Makess, owns_make, shows}
use denote.Signature.{type_at}
use denote.Steps.{heard, facts}
use denote.Exit.{unchanged}
use denote.Struct.Declared.{Declared, fields, row}
use denote.Struct.Laws as LL
use denote.Struct.Struct.{Plains}
use denote.Triple.Clauses.{Ended, Clauses, Lasts, ensured, lasts, at_exit}
use denote.Triple.Entry.{Args, Res}
use Rattle.plans.specs.contracts.Plan as P
use Rattle.plans.proofs.Plan.TheLaws as P'
use Rattle.dispatch.specs.contracts.State as S
use Rattle.dispatch.proofs.State.TheLaws as S'
use Rattle.jobs.specs.contracts.Tasks as U
use Rattle.jobs.proofs.Tasks.TheLaws as U'
use Rattle.dispatch.specs.contracts.Ticked as K
use Rattle.dispatch.proofs.Ticked.TheLaws as K'
use Rattle.board.specs.contracts.Ran as R
use Rattle.board.proofs.Ran.TheLaws as R'

-- ---- the plain types that the walks are about
-- what a walk knows of a plain type: its machine type and its machine values, and that what it owns is had for nothing
pub record Held : Type 2 where
  pub row : RattleType
  pub type : Ty
  pub val : row.Denot → Val
  pub tells : Tells row (Is row) (λ x. val x ∷ [])
  pub typed : {M : Type 1} {𝓤 : Ura M} (𝓛 : Logic 𝓤) (x : row.Denot) (v : Val) → Is row x (v ∷ []) → Typed (type ∷ []) (v ∷ [])
  pub makes : {M : Type 1} {𝓤 : Ura M} (𝓛 : Logic 𝓤) → Makes 𝓛 row (Is row)

abbrev pub struct : (T : Declared) (L : LL.Laws T) → Plains (fields T) → (τ : Ty) → (row T).mir ≡ τ ∷ [] → Held
struct T L pl τ e = record {
  row = row T;
  type = τ;
  val = LL.val T L;
  tells = LL.tells T L;
  typed = λ 𝓛 x v is_x. subst (λ (τs : List Ty). Typed τs (v ∷ [])) e ((LL.lawful T L 𝓛).typed x (v ∷ []) is_x);
  makes = LL.makes T pl;
}

abbrev pub plans : Held
plans = struct P.the_type P'.the_laws P'.the_plain P'.mir refl

abbrev pub states : Held
states = struct S.the_type S'.the_laws S'.the_plain S'.mir refl

abbrev pub sets : Held
sets = struct U.the_type U'.the_laws U'.the_plain U'.mir refl

abbrev pub ticks : Held
ticks = struct K.the_type K'.the_laws K'.the_plain K'.mir refl

abbrev pub rans : Held
rans = struct R.the_type R'.the_laws R'.the_plain R'.mir refl

-- ---- a call with plain values
module _ {M : Type 1} {𝓤 : Ura M} (𝓛 : Logic 𝓤) where
  -- what it asks is had for nothing, but for the `requires`
  pub passes : (Rs : List RattleType) → Makess 𝓛 Rs (Ises Rs) → (a : Denots Rs) (vss : Valss Rs) → Are Rs (Ises Rs) a vss → (Q : SProp 𝓤) → ent 𝓤 (emp 𝓤) Q
      → ent 𝓤 (emp 𝓤) (sep 𝓤 (sep 𝓤 (emp 𝓤) (sem 𝓛 (owns Rs a vss))) Q)
  passes Rs make a vss are Q q =
      via 𝓤 (sep 𝓤 (emp 𝓤) (emp 𝓤)) (emp∗ 𝓤 (emp 𝓤))
      (via 𝓤 (sep 𝓤 (sep 𝓤 (emp 𝓤) (sem 𝓛 (owns Rs a vss))) (emp 𝓤))
      (mono_l 𝓤 (emp 𝓤) (via 𝓤 (sep 𝓤 (emp 𝓤) (emp 𝓤)) (emp∗ 𝓤 (emp 𝓤)) (mono_r 𝓤 (emp 𝓤) (owns_make 𝓛 Rs (Ises Rs) make a vss are))))
      (mono_r 𝓤 (sep 𝓤 (emp 𝓤) (sem 𝓛 (owns Rs a vss))) q))

module _ {M : Type 1} {𝓤 : Ura M} {𝓛 : Logic 𝓤} {K : Type 0} {Γ : List (Item 𝓤)} {G : Goal 𝓤 𝓛.H} where
  -- after a call: the result, what the `ensures` says of it, its machine value, and the tokens back
  open 𝓛 use {H}

  pub answers : K → Soaks G → (T : Ended) (c : Clauses 𝓤 T) (κs : Lfts T.signature.lifetimes) (a : Args T.signature κs) (g : (c κs a).ghost) (tokens : Item 𝓤)
      (φ : Res T.signature κs → Type 0) → ((r : Res T.signature κs) (ws : Lasts T κs a) → ent 𝓤 ((c κs a).ensures g r (at_exit T κs a ws)) (fact 𝓤 (φ r))) → (v : Val)
      → ((r : Res T.signature κs) → φ r → Is (type_at T.signature.result κs) r (v ∷ []) → Seq K 𝓛 (tokens ∷ Γ) G)
      → Seq K 𝓛 (raw (H.⇛ (ex 𝓤 (λ (r : Res T.signature κs). sep 𝓤 (sep 𝓤 (mean 𝓛 tokens) (sem 𝓛 ((type_at T.signature.result κs).own_val r (v ∷ [])))) (ensured 𝓛 T c κs a g r)))) ∷ Γ) G
  answers t z T c κs a g tokens φ say v k =
      use1 𝓛 (later (some (λ (r : Res T.signature κs). (tokens ⊛ ‵ ((type_at T.signature.result κs).own_val r (v ∷ []))) ⊛ raw (ensured 𝓛 T c κs a g r)))) (id⊢ 𝓤 _) $ await t z $ pick t (λ r.
      split t $ move t (1 ∷ []) $ use1 𝓛 (raw (fact 𝓤 (φ r))) (ex_e 𝓤 _ (λ ws. via 𝓤 _ (snd∗ 𝓤 (sem 𝓛 (lasts T κs a ws)) _) (say r ws))) $ heard t (φ r) (λ e.
      split t $ move t (1 ∷ []) $ facts t (type_at T.signature.result κs) (Is (type_at T.signature.result κs)) (shows 𝓛 (type_at T.signature.result κs)) r (v ∷ []) (λ is-r. k r e is-r)))

module _ {M : Type 1} {𝓤 : Ura M} {𝓛 : Logic 𝓤} {K : Type 0} {Γ : List (Item 𝓤)} where
  -- what is had for nothing beside the goal
  pub beside : {P E : SProp 𝓤} → K → ent 𝓤 (emp 𝓤) E → Step K 𝓛 Γ (prop P) Γ (prop (sep 𝓤 P E))
  beside {P} {E} t e = step (λ s. by t (via 𝓤 P s.prf (via 𝓤 (sep 𝓤 (emp 𝓤) P) (emp∗ 𝓤 P) (via 𝓤 (sep 𝓤 E P) (mono_l 𝓤 P e) (comm∗ 𝓤 E P)))))

-- a call's result is x: what is left of the answer is that its machine value is x's
pub turned : {M : Type 1} {𝓤 : Ura M} (𝓛 : Logic 𝓤) (T : Ended) (c : Clauses 𝓤 T) (κs : Lfts T.signature.lifetimes) (a : Args T.signature κs) (g : (c κs a).ghost)
    (x : Res T.signature κs) → ((r : Res T.signature κs) (ws : Lasts T κs a) → ent 𝓤 ((c κs a).ensures g r (at_exit T κs a ws)) (fact 𝓤 (r ≡ x))) → (v : Val)
    → ent 𝓤 (𝓛.H.⇛ (ex 𝓤 (λ (r : Res T.signature κs). sep 𝓤 (sep 𝓤 (emp 𝓤) (sem 𝓛 ((type_at T.signature.result κs).own_val r (v ∷ [])))) (ensured 𝓛 T c κs a g r))))
    (𝓛.H.⇛ (guard 𝓤 (Is (type_at T.signature.result κs) x (v ∷ [])) (emp 𝓤)))
turned {𝓤 = 𝓤} 𝓛 T c κs a g x say v =
    qed 𝓛 (raw (𝓛.H.⇛ (ex 𝓤 (λ (r : Res T.signature κs). sep 𝓤 (sep 𝓤 (emp 𝓤) (sem 𝓛 ((type_at T.signature.result κs).own_val r (v ∷ [])))) (ensured 𝓛 T c κs a g r)))) ∷ []) ∵ updating ! $
    answers ! tt T c κs a g (‵ ftrue) (λ (r : Res T.signature κs). r ≡ x) say v (λ r e is-r. now ! $
    by ! (guard_i 𝓤 (Is (type_at T.signature.result κs) x (v ∷ [])) (emp 𝓤) (subst (λ (z : Res T.signature κs). Is (type_at T.signature.result κs) z (v ∷ [])) e is-r)))

-- a plain type is seen at exit as it was passed
abbrev pub still : RattleType → RattleType
still R = record { Denot = R.Denot; mir = R.mir; written = R.written; reaches = R.reaches; lives = R.lives; own_val = R.own_val; exit = λ k. unchanged; coded = R.coded; shr_at = R.shr_at }

-- ---- a loop that counts
abbrev pub word : Ty
word = ty_int w64

pub one_more : (i : ℕ) → i + 1 ≡ suc i
one_more i = add-suc i zero ∙ ap suc (add-zero i)

pub holds : (b : Bool) → Holds b → b ≡ true
holds true t = refl
holds false t = absurd t

pub fails : (b : Bool) → (Holds b → ⊥) → b ≡ false
fails true f = absurd (f tt)
fails false f = refl
