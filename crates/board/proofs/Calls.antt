-- Calls of functions that take and answer plain values, as one step of a walk.
-- Assumes nothing.
use mathlib.Core.Path.{◌≡◌, sym, ap, subst}
use mathlib.Core.List.{List, [], ◌∷◌}
use seplogic.Ra.Ura.{Ura}
use mir.Syntax.{Callee, Place, Opd as Operand, Body, seq, call}
use mir.Val.{Val}
use base.Logic.{SProp, ent, guard, emp, id⊢, via}
use base.Fml.{ftrue}
use prog.Wp.{Heap, Env, Calls, Loops}
use types.Logic.{Logic}
use sound.WpLaws.{FmC}
use contract.Monad.{fact}
use types.Kit.{Item, ‵, given, later, Post, runs, lands, Seq, ◌$◌, use1, await, learn, drop}
use types.Run.{Opds}
use denote.RattleType.{RattleType, flat}
use denote.Laws.{Is, Ises, Are, Makess, Spells, valss}
use denote.Exit.{yes}
use denote.Signature.{Slot, plain, types_at}
use denote.Steps.{only, nothing}
use denote.Triple.Call.{calls_from}
use denote.Triple.Clauses.{Ended, Clauses, closing}
use denote.Triple.End.{Kepts}
use denote.Triple.Entry.{Args}
use denote.Triple.Spec.{triple_of}
use denote.Triple.Statement.{Contract, Triple}
use Rattle.board.proofs.Walk.{Held, passes, turned, still}

-- a call of f with the values vs answers with r
pub record Told {M : Type 1} (𝓤 : Ura M) (H : Heap 𝓤) (C : Calls 𝓤 H) (f : Callee) (vs : List Val) (R : Held) (r : R.row.Denot) : Type 2 where
  pub Said : Val → SProp 𝓤
  pub goes : ent 𝓤 (emp 𝓤) (C f vs Said)
  pub said : (v : Val) → ent 𝓤 (Said v) (H.⇛ (guard 𝓤 (Is R.row r (v ∷ [])) (emp 𝓤)))

module _ {M : Type 1} {𝓤 : Ura M} {𝓛 : Logic 𝓤} {K : Type 0} {Γ : List (Item 𝓤)} {E : Env 𝓤 𝓛.H} {C : Calls 𝓤 𝓛.H} {f : Callee} {xs : List Operand} {Λ : Loops 𝓤 𝓛.H} {q : Post 𝓤 𝓛.H} {d : Place} where
  -- the call as a step: the operands are read beside a `‵ ftrue`, and the answer is r's machine value
  open 𝓛 use {H}

  pub asks : K → FmC 𝓤 H 𝓛.laws C → {rest : Body} (vs : List Val) (R : Held) (r : R.row.Denot) → Told 𝓤 H C f vs R r → Opds K 𝓛 (‵ ftrue ∷ Γ) E xs vs
      → (Is R.row r (R.val r ∷ []) → Seq K 𝓛 Γ (lands C Λ E d (R.val r) rest q)) → Seq K 𝓛 Γ (runs C Λ E (seq (call f xs d) rest) q)
  asks t fm {rest} vs R r told os k =
      nothing t $ calls_from t fm (‵ ftrue) vs told.Said told.goes os (λ v.
      use1 𝓛 (later (given (Is R.row r (v ∷ [])) (‵ ftrue))) (told.said v) $ await t tt $ learn t (λ is-r. drop t $
      subst (λ (z : Val). Seq K 𝓛 Γ (lands C Λ E d z rest q)) (sym (ap only (R.tells r (v ∷ []) is-r))) (k (subst (λ (vs : List Val). Is R.row r vs) (R.tells r (v ∷ []) is-r) is-r))))

-- ---- a function that takes plain values
abbrev slots : List Held → List (Slot 0)
slots [] = []
slots (X ∷ Xs) = plain (λ _. still X.row) ∷ slots Xs

abbrev all_kept : (Xs : List Held) → Kepts (slots Xs)
all_kept [] = tt
all_kept (X ∷ Xs) = (yes, all_kept Xs)

abbrev pub by_value : List Held → Held → Ended
by_value Xs Y = record { signature = record { lifetimes = 0; outlives = []; params = slots Xs; result = plain (λ _. Y.row) }; kept = all_kept Xs }

abbrev rows : List Held → List RattleType
rows Xs = types_at (slots Xs) tt

abbrev spells : (Xs : List Held) → Spells (rows Xs)
spells [] = tt
spells (X ∷ Xs) = ((λ x. X.val x ∷ []), spells Xs)

module _ {M : Type 1} {𝓤 : Ura M} (𝓛 : Logic 𝓤) where
  open 𝓛 use {H}

  abbrev make_all : (Xs : List Held) → Makess 𝓛 (rows Xs) (Ises (rows Xs))
  make_all [] = tt
  make_all (X ∷ Xs) = (X.makes 𝓛, make_all Xs)

  module _ (Xs : List Held) (Y : Held) (f : Args (by_value Xs Y).signature tt → Y.row.Denot) where
    -- its contract asks nothing, and says that the result is f of the arguments
    abbrev equates : Clauses 𝓤 (by_value Xs Y)
    equates κs a = record { ghost = Unit {0}; requires = λ g. emp 𝓤; ensures = λ g r ws. fact 𝓤 (r ≡ f a) }

    abbrev pub Equates : Contract 𝓤
    Equates = triple_of 𝓛 (by_value Xs Y).signature (closing 𝓛 (by_value Xs Y) equates)

    -- a call of it is told by its contract
    pub told : (C : Calls 𝓤 H) (#f : Callee) → Triple 𝓤 (C #f) Equates → (a : Args (by_value Xs Y).signature tt)
        → Are (rows Xs) (Ises (rows Xs)) a (valss (rows Xs) (spells Xs) a) → Told 𝓤 H C #f (flat (rows Xs) (valss (rows Xs) (spells Xs) a)) Y (f a)
    told C #f known a are = record {
      Said = Equates.post ((tt, tt, tt, a, valss (rows Xs) (spells Xs) a), tt);
      goes = via 𝓤 _ (passes 𝓛 (rows Xs) (make_all Xs) a (valss (rows Xs) (spells Xs) a) are (emp 𝓤) (id⊢ 𝓤 (emp 𝓤))) (known ((tt, tt, tt, a, valss (rows Xs) (spells Xs) a), tt));
      said = turned 𝓛 (by_value Xs Y) equates tt a tt (f a) (λ r ws. id⊢ 𝓤 _);
    }
