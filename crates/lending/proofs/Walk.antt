-- What the walks over a lent list of pieces share: what such a function is given and comes to, and a loop over the list.
-- Assumes nothing.
use mathlib.Core.Path.{◌≡◌, refl, sym, ◌∙◌, ap, subst}
use mathlib.Core.Bool.{Bool}
use mathlib.Core.List.{List, [], ◌∷◌}
use Prim.Native.Nat.{ℕ, zero, suc, ◌+◌, ◌<◌, ◌≤◌, ◌^◌}
use native.Mathlib.Nat.{add-zero, zero-add, lt_irrefl}
use native.Mathlib.Omega.{arith}
use lib.Dec.{ltb, lt→ltb, ltb→lt, lit<}
use lib.ListN.{length}
use lib.WfN.{lt-wf_rel}
use seplogic.Ra.Ura.{Ura}
use base.Fraction.{full_share}
use mir.Syntax.{Callee, Ty, Fn, Body as Code, local, value_local, block, named, imm, w64, ty_bool, ty_ref, place, unsigned, copy, int, skip as skipᴹ, seq, assign, call, loop, cond, exit, return, rv_opd, op2, add, lt}
use mir.Val.{Val, vbool, vint}
use base.Logic.{SProp, ent, sep, ex, guard, emp, via, ex_i, ex_e, guard_i, guard_e, mono_r}
use base.Fml.{Lft, Share, Fml, ftrue, fat, froom, fdies, flft}
use prog.Wp.{Out, Env, after_seq, after_block, after_turn, Calls, Loops, Wp, at_return, WpFn, Tables}
use types.Logic.{Logic, sem}
use sound.Loop.{loop_rule}
use sound.WpLaws.{FmC, fm_of, WpFn-mono}
use contract.Monad.{fact}
use types.Kit.{suffices, Item, ‵, raw, given, later, ◌⊛◌, mean, ⋆, any_q, at_ret, ◌$◌, ◌∵◌, !, qed, by, learn, use1, use2, await, split, drop, move, keep, rewrite, fsplit, fjoin, frame, done}
use types.Run.{look, store, init, forget, stop, from, load, lit, of_opd, bin, and_then, no_more, land, assigns, assigns_last, stays, leaves_loop, returns, enter, alloc1, alloc0, params1, pass1, pass0, free1, free0, exec}
use denote.RattleType.{owns}
use denote.Builtin.{usize, SliceRefOf}
use denote.Laws.{Is}
use denote.Memory.{pointee}
use denote.Plain.{uint_vals, uint_Tells, uint_Makes}
use denote.Ref.{Bor}
use denote.Signature.{plain}
use denote.Slice.{slice_ty, slice_val, shr_slice_vals, ShrSlice, Room, shr_slice_Tells, shr_slice_copy}
use denote.Steps.{only, owned, nothing}
use denote.Exit.{yes}
use denote.Struct.Laws as LL
use denote.Triple.Call.{calls_at, calls_from}
use denote.Triple.Clauses.{Ended, Clauses, closing, Lasts, at_exit}
use denote.Triple.Spec.{Meets, triple_of}
use denote.Triple.Statement.{Contract, Triple}
use denote.Triple.Walked.{needs, Stays, stay_none, stay_none_slice, walk_of, Goes-none, Goes-none_slice, ends_at, walked, walk_Meets}
use Rattle.plans.specs.declared.Piece.{Piece}
use Rattle.tasks.specs.contracts.Table as T
use Rattle.tasks.proofs.Table.TheLaws as T'
use Rattle.bounds.specs.contracts.Bounding as B
use Rattle.bounds.proofs.Bounding.TheLaws as B'
use Rattle.plans.specs.contracts.Piece as Z
use Rattle.lending.specs.contracts.Adding as D
use Rattle.lending.proofs.Adding.TheLaws as D'
use Rattle.plans.proofs.Piece.TheLaws as Z'
use Rattle.board.proofs.Walk.{Held, struct, passes, answers, beside, turned, still, word, one_more, holds, fails}
use Rattle.lending.specs.Adding.{lent_piece, up_to}

-- ---- the plain types that the walks are about
abbrev pub tables : Held
tables = struct T.the_type T'.the_laws T'.the_plain T'.mir refl

abbrev pub pieces : Held
pieces = struct Z.the_type Z'.the_laws Z'.the_plain Z'.mir refl

abbrev pub addings : Held
addings = struct D.the_type D'.the_laws D'.the_plain D'.mir refl

abbrev pub boundings : Held
boundings = struct B.the_type B'.the_laws B'.the_plain B'.mir refl

-- ---- a lent list of pieces
-- the machine type and value of a lent list of pieces, what it owns, and the token of its lifetime
abbrev pub listed : Ty
listed = slice_ty (ty_ref (named 0) imm (pointee (Z.the_row).written))

abbrev pub list_val : Bor (List Piece) → Val
list_val l = slice_val l.ref_ptr (length l.now)

abbrev pub Own : Lft → Bor (List Piece) → Fml
Own κ l = (ShrSlice (named 0) κ Z.the_row).own_val l (list_val l ∷ [])

abbrev pub Token : {M : Type 1} (𝓤 : Ura M) → Lft → Share → Item 𝓤
Token 𝓤 κ q = ‵ (flft κ q) ⊛ ‵ ftrue

-- what a call asks that takes a plain value, a lent list and a number, but for the `requires`
pub lends : {M : Type 1} {𝓤 : Ura M} (𝓛 : Logic 𝓤) (κ : Lft) (q : Share) (X : Held) (x : X.row.Denot) (v : Val) → Is X.row x (v ∷ [])
    → (l : Bor (List Piece)) (n : ℕ) (u : Val) → Is usize n (u ∷ []) → (E : SProp 𝓤) → ent 𝓤 (emp 𝓤) E
    → ent 𝓤 (sep 𝓤 (mean 𝓛 (Token 𝓤 κ q)) (sem 𝓛 (Own κ l)))
    (sep 𝓤 (sep 𝓤 (mean 𝓛 (Token 𝓤 κ q)) (sem 𝓛 (owns (X.row ∷ ShrSlice (named 0) κ Z.the_row ∷ usize ∷ []) (x, (l, (n, tt))) (v ∷ [], (list_val l ∷ [], (u ∷ [], tt)))))) E)
lends {𝓤 = 𝓤} 𝓛 κ q X x v is_x l n u is-n E e =
    qed 𝓛 (Token 𝓤 κ q ∷ ‵ (Own κ l) ∷ []) ∵ beside ! e $ frame ! $
    nothing ! $ owned ! usize (Is usize) (uint_Makes 𝓛 w64) n _ is-n $ fjoin ! $ move ! (1 ∷ 0 ∷ []) $ fjoin ! $ owned ! X.row (Is X.row) (X.makes 𝓛) x _ is_x $ fjoin ! $ done !

-- ---- a function that takes a plain value, a lent list and a number, and answers with a plain value
abbrev over : Held → Held → Ended
over X Q = record {
  signature = record { lifetimes = 1; outlives = []; params = plain (λ _. still X.row) ∷ SliceRefOf (0 ∷ []) tt (plain (λ _. Z.the_row)) (λ _. tt) ∷ plain (λ _. usize) ∷ []; result = plain (λ _. Q.row) };
  kept = (yes, (yes, (yes, tt)));
}

module _ {M : Type 1} {𝓤 : Ura M} (𝓛 : Logic 𝓤) (X Q : Held) (c : Clauses 𝓤 (over X Q)) where
  open 𝓛 use {H}

  abbrev stayed : Stays (over X Q).signature.params (over X Q).kept
  stayed = (stay_none (λ _. still X.row) yes, (stay_none_slice (0 ∷ []) tt (plain (λ _. Z.the_row)) yes, (stay_none (λ _. usize) yes, tt)))

  module _ (κ : Lft) (q : Share) (a : X.row.Denot) (l : Bor (List Piece)) (n : ℕ) (g : (c (κ, tt) (a, (l, (n, tt)))).ghost) where
    abbrev binds : (walk_of 𝓛 (over X Q) stayed c).Ghost
    binds = (((κ, tt), (q, tt), tt, (a, (l, (n, tt))), (X.val a ∷ [], (list_val l ∷ [], (vint w64 n ∷ [], tt)))), g)

    -- what there is at entry, and what its walk has to come to
    abbrev pub Begins : SProp 𝓤
    Begins = sep 𝓤 (mean 𝓛 (Token 𝓤 κ q)) (sem 𝓛 (owns (X.row ∷ ShrSlice (named 0) κ Z.the_row ∷ usize ∷ []) (a, (l, (n, tt))) (X.val a ∷ [], (list_val l ∷ [], (vint w64 n ∷ [], tt)))))

    abbrev pub Ends : Val → SProp 𝓤
    Ends = (walk_of 𝓛 (over X Q) stayed c).post binds

    -- it comes to it with the token and the list in hand, and a result of which the `ensures` holds
    pub ends : Is X.row a (X.val a ∷ []) → n < 2 ^ 64 → (r : Q.row.Denot) (u : Val) → Is Q.row r (u ∷ [])
        → ent 𝓤 (emp 𝓤) ((c (κ, tt) (a, (l, (n, tt)))).ensures g r (at_exit (over X Q) (κ, tt) (a, (l, (n, tt))) (tt, (tt, (tt, tt))))) → ent 𝓤 (⋆ 𝓛 (Token 𝓤 κ q ∷ ‵ (Own κ l) ∷ [])) (Ends u)
    ends is-a n-fits r u is-r e =
        qed 𝓛 (Token 𝓤 κ q ∷ ‵ (Own κ l) ∷ []) ∵
        suffices ! _ (ends_at 𝓛 (over X Q) stayed c binds u r (tt, (tt, (tt, tt))) (tt, (tt, (tt, tt)))) $ beside ! e $
        frame ! $ nothing ! $ owned ! usize (Is usize) (uint_Makes 𝓛 w64) n _ (refl, n-fits) $ fjoin ! $ move ! (1 ∷ 0 ∷ []) $ fjoin ! $
        owned ! X.row (Is X.row) (X.makes 𝓛) a _ is-a $ fjoin ! $ frame ! $ owned ! Q.row (Is Q.row) (Q.makes 𝓛) r _ is-r $ done !

  -- the contract, from a walk of the code under what the `requires` says
  pub meets : (f : Fn) (𝓣 : Tables 𝓤 H) (Asked : X.row.Denot → Bor (List Piece) → ℕ → Type 0)
      → ((κ : Lft) (a : X.row.Denot) (l : Bor (List Piece)) (n : ℕ) (g : (c (κ, tt) (a, (l, (n, tt)))).ghost) → ent 𝓤 ((c (κ, tt) (a, (l, (n, tt)))).requires g) (fact 𝓤 (Asked a l n)))
      → ((κ : Lft) (q : Share) (a : X.row.Denot) (l : Bor (List Piece)) (n : ℕ) (g : (c (κ, tt) (a, (l, (n, tt)))).ghost) → Is X.row a (X.val a ∷ []) → Room Z.the_row (length l.now) → n < 2 ^ 64 → Asked a l n
      → ent 𝓤 (Begins κ q a l n g) (WpFn 𝓤 H 𝓣.C 𝓣.Λ f (X.val a ∷ list_val l ∷ vint w64 n ∷ []) (Ends κ q a l n g)))
      → Meets 𝓛 (over X Q).signature (WpFn 𝓤 H 𝓣.C 𝓣.Λ f) (closing 𝓛 (over X Q) c)
  meets f 𝓣 Asked asks walk =
      walk_Meets 𝓛 (over X Q) stayed (Goes-none 𝓛 1 (λ _. still X.row) yes (λ κs x w. refl), (Goes-none_slice 𝓛 1 (0 ∷ []) tt (plain (λ _. Z.the_row)) yes, (Goes-none 𝓛 1 (λ _. usize) yes (λ κs x w. refl), tt)))
      c (WpFn 𝓤 H 𝓣.C 𝓣.Λ f) (WpFn-mono 𝓤 H 𝓛.laws 𝓣 f)
      (walked 𝓛 (over X Q) stayed c (WpFn 𝓤 H 𝓣.C 𝓣.Λ f)
      (λ κs. ((λ x. X.val x ∷ []), (shr_slice_vals, (uint_vals w64, tt)))) (λ κs. (X.tells, (shr_slice_Tells (named 0) κs.0 Z.the_row, (uint_Tells w64, tt))))
      (λ κs qs bounds x g are. via 𝓤 _ (mono_r 𝓤 (Begins κs.0 qs.0 x.0 x.1.0 x.1.1.0 g) (asks κs.0 x.0 x.1.0 x.1.1.0 g))
      (needs 𝓤 (Asked x.0 x.1.0 x.1.1.0) (Begins κs.0 qs.0 x.0 x.1.0 x.1.1.0 g) (walk κs.0 qs.0 x.0 x.1.0 x.1.1.0 g are.0 are.1.0.0.1 are.1.1.0.1))))

-- ---- a loop over the first n pieces of a lent list: acc = f(acc, lent_piece(pieces, j)); j += 1
-- one turn, of a loop whose body calls the functions named `reads` and `each`
abbrev turn : Callee → Callee → Code
turn reads each = seq (assign (place 5 []) (op2 (lt unsigned) (copy (place 4 [])) (copy (place 3 []))))
    (seq (cond (copy (place 5 [])) skipᴹ (exit 1))
    (seq (call reads (copy (place 2 []) ∷ copy (place 4 []) ∷ []) (place 6 []))
    (seq (call each (copy (place 1 []) ∷ copy (place 6 []) ∷ []) (place 1 []))
    (assign (place 4 []) (op2 (add unsigned) (copy (place 4 [])) (int w64 1))))))

-- what follows the loop
abbrev rest : Code
rest = seq (assign (place 0 []) (rv_opd (copy (place 1 [])))) return

-- the function: its sum is a parameter, and it loops over the list's first n pieces
abbrev pub summing : Ty → Callee → Callee → Fn
summing τ reads each = record {
  lifetimes = 1;
  outlives = [];
  ty_params = [];
  givens = 0;
  params = 3;
  locals = local τ value_local ∷ local τ value_local ∷ local listed value_local ∷ local word value_local ∷ local word value_local ∷ local ty_bool value_local ∷ local Z'.mir value_local ∷ [];
  body = seq (assign (place 4 []) (rv_opd (int w64 0))) (seq (block (loop (turn reads each))) rest);
}

-- the function that reads the piece at a place of a lent list
abbrev reading : Ended
reading = record {
  signature = record { lifetimes = 1; outlives = []; params = SliceRefOf (0 ∷ []) tt (plain (λ _. Z.the_row)) (λ _. tt) ∷ plain (λ _. usize) ∷ []; result = plain (λ _. Z.the_row) };
  kept = (yes, (yes, tt));
}

module _ {M : Type 1} {𝓤 : Ura M} (𝓛 : Logic 𝓤) (reads : Callee) (b : Clauses 𝓤 reading) (given-b : (κ : Lft) (l : Bor (List Piece)) (i : ℕ) → (b (κ, tt) (l, (i, tt))).ghost)
    (asks-b : (κ : Lft) (l : Bor (List Piece)) (i : ℕ) → i < length l.now → ent 𝓤 (emp 𝓤) ((b (κ, tt) (l, (i, tt))).requires (given-b κ l i)))
    (tells-b : (κ : Lft) (l : Bor (List Piece)) (i : ℕ) (r : Piece) (ws : Lasts reading (κ, tt) (l, (i, tt))) → ent 𝓤 ((b (κ, tt) (l, (i, tt))).ensures (given-b κ l i) r (at_exit reading (κ, tt) (l, (i, tt)) ws)) (fact 𝓤 (r ≡ lent_piece l.now i))) where
  open 𝓛 use {H, A}

  abbrev pub LentPiece : Contract 𝓤
  LentPiece = triple_of 𝓛 reading.signature (closing 𝓛 reading b)

  module _ (κ : Lft) (q : Share) (l : Bor (List Piece)) where
    abbrev ys : List Piece
    ys = l.now

    abbrev to_piece : ℕ → LentPiece.Ghost
    to_piece i = (((κ, tt), (q, tt), tt, (l, (i, tt)), (list_val l ∷ [], (vint w64 i ∷ [], tt))), given-b κ l i)

    goes_piece : (i : ℕ) → i < 2 ^ 64 → i < length ys → ent 𝓤 (sep 𝓤 (sep 𝓤 (A.lft κ q) (sem 𝓛 ftrue)) (sem 𝓛 (Own κ l))) (LentPiece.pre (to_piece i))
    goes_piece i f inside =
        qed 𝓛 (Token 𝓤 κ q ∷ ‵ (Own κ l) ∷ []) ∵ beside ! (asks-b κ l i inside) $ frame ! $
        nothing ! $ owned ! usize (Is usize) (uint_Makes 𝓛 w64) i _ (refl, f) $ fjoin ! $ move ! (1 ∷ 0 ∷ []) $ fjoin ! $ done !

    -- the sum begins at a, and a turn makes f of it and of the next piece
    module _ (X : Held) (f : X.row.Denot → Piece → X.row.Denot) (a : X.row.Denot) (n : ℕ) (n-fits : n < 2 ^ 64) (within : n ≤ length ys) (each : Callee) (Post : Val → SProp 𝓤) where
      abbrev acc : ℕ → X.row.Denot
      acc i = up_to f i a ys

      abbrev Fits : ℕ → Type 0
      Fits i = Is X.row (acc i) (X.val (acc i) ∷ [])

      -- `each` answers in turn i with the next sum; at the end there is what the contract says of the last one
      module _ (𝓣 : Tables 𝓤 H) (known : Triple 𝓤 (𝓣.C reads) LentPiece) (Said : ℕ → Val → Val → SProp 𝓤)
          (goes : (i : ℕ) → i < n → Fits i → (w : Val) → Is Z.the_row (lent_piece ys i) (w ∷ []) → ent 𝓤 (emp 𝓤) (𝓣.C each (X.val (acc i) ∷ w ∷ []) (Said i w)))
          (said : (i : ℕ) (w u : Val) → ent 𝓤 (Said i w u) (H.⇛ (guard 𝓤 (Is X.row (acc (suc i)) (u ∷ [])) (emp 𝓤))))
          (exits : Fits n → ent 𝓤 (⋆ 𝓛 (Token 𝓤 κ q ∷ ‵ (Own κ l) ∷ [])) (Post (X.val (acc n)))) where
        abbrev C : Calls 𝓤 H
        C = 𝓣.C

        abbrev Λ : Loops 𝓤 H
        Λ = 𝓣.Λ

        abbrev fm : FmC 𝓤 H 𝓛.laws C
        fm = fm_of 𝓤 H 𝓛.laws 𝓣

        module _ (l₀ l₁ l₂ l₃ l₄ l₅ l₆ : ℕ) where
          abbrev En : Env 𝓤 H
          En = (X.type, l₀) ∷ (X.type, l₁) ∷ (listed, l₂) ∷ (word, l₃) ∷ (word, l₄) ∷ (ty_bool, l₅) ∷ (Z'.mir, l₆) ∷ []

          -- [_1; _4; room for _5; room for _6; _2; _3; room for _0; the token; what the list owns; that each local dies]
          abbrev At : ℕ → List (Item 𝓤)
          At i = ‵ (fat full_share X.type l₁ 0 (X.val (acc i))) ∷ ‵ (fat full_share word l₄ 0 (vint w64 i)) ∷ ‵ (froom ty_bool l₅ 0) ∷ ‵ (froom Z'.mir l₆ 0)
              ∷ ‵ (fat full_share listed l₂ 0 (list_val l)) ∷ ‵ (fat full_share word l₃ 0 (vint w64 n)) ∷ ‵ (froom X.type l₀ 0) ∷ Token 𝓤 κ q ∷ ‵ (Own κ l)
              ∷ ‵ (fdies X.type l₀) ∷ ‵ (fdies X.type l₁) ∷ ‵ (fdies listed l₂) ∷ ‵ (fdies word l₃) ∷ ‵ (fdies word l₄) ∷ ‵ (fdies ty_bool l₅) ∷ ‵ (fdies Z'.mir l₆) ∷ []

          abbrev Facts : ℕ → ℕ → Type 0
          Facts t i = (i + t ≡ n) × Fits i

          abbrev Inv : ℕ → SProp 𝓤
          Inv t = ex 𝓤 (λ (i : ℕ). guard 𝓤 (Facts t i) (⋆ 𝓛 (At i)))

          abbrev Below : ℕ → SProp 𝓤
          Below t = ex 𝓤 (λ (t' : ℕ). guard 𝓤 (t' < t) (Inv t'))

          abbrev Left : Out → SProp 𝓤
          Left = after_block 𝓤 H (after_seq 𝓤 H (Wp 𝓤 H C Λ En rest (at_return 𝓤 H En Post)) (at_return 𝓤 H En Post))

          more : (i : ℕ) (after : SProp 𝓤) → i < n → Fits i → (Fits (suc i) → ent 𝓤 (⋆ 𝓛 (At (suc i))) after) → ent 𝓤 (⋆ 𝓛 (At i)) (Wp 𝓤 H C Λ En (turn reads each) (after_turn 𝓤 H after Left))
          unfolding after_turn
          more i after small here k =
              let i_fits : i < 2 ^ 64 = omega arith in
              let next_fits : i + 1 < 2 ^ 64 = omega arith in
              let inside : i < length ys = omega arith in
              qed 𝓛 (At i) ∵ exec ! C Λ En (turn reads each) (any_q (after_turn 𝓤 H after Left)) $
              assigns ! (bin ! (load ! (from ! (stop !)) (look ! 1 refl)) (load ! (from ! (stop !)) (look ! 5 refl)) tt) (from ! (stop !)) (init ! 2 refl (tt, tt)) $
              rewrite ! 2 (λ (t : Bool). ‵ (fat full_share ty_bool l₅ 0 (vbool t))) (holds (ltb i n) (lt→ltb i n small)) refl $
              stays ! (load ! (from ! (stop !)) (look ! 2 refl)) $
              move ! (8 ∷ []) $ use1 𝓛 (‵ (Own κ l) ⊛ ‵ (Own κ l)) ((shr_slice_copy 𝓛 (named 0) κ Z.the_row (Z'.the_row_laws).shr_laws).twice l (list_val l ∷ [])) $ split ! $
              -- [Own; Own; _1; _4; _5; _6; _2; _3; _0; the token; …]
              move ! (9 ∷ 0 ∷ []) $ use2 𝓛 (raw (LentPiece.pre (to_piece i))) (goes_piece i i_fits inside) $
              calls_at ! fm (LentPiece) known (to_piece i) (and_then ! (load ! (from ! (stop !)) (look ! 6 refl)) (and_then ! (load ! (from ! (stop !)) (look ! 3 refl)) (no_more !))) (λ w.
              answers ! tt reading b (κ, tt) (l, (i, tt)) (given-b κ l i) (Token 𝓤 κ q) (λ (r : Piece). r ≡ lent_piece ys i) (tells-b κ l i) w (λ r e is-r.
              -- [the token; Own; _1; _4; _5; room for _6; _2; _3; _0; …]
              land ! (from ! (stop !)) (init ! 5 refl ((LL.lawful Z.the_type Z'.the_laws 𝓛).typed r _ is-r).0) $ nothing ! $
              calls_from ! fm (‵ ftrue) (X.val (acc i) ∷ w ∷ []) (Said i w) (goes i small here w (subst (λ (z : Piece). Is Z.the_row z (w ∷ [])) e is-r)) (and_then ! (load ! (from ! (stop !)) (look ! 3 refl)) (and_then ! (load ! (from ! (stop !)) (look ! 6 refl)) (no_more !))) (λ u.
              use1 𝓛 (later (given (Is X.row (acc (suc i)) (u ∷ [])) (‵ ftrue))) (said i w u) $ await ! tt $ learn ! (λ is-next. drop ! $
              land ! (from ! (stop !)) (store ! 2 refl (X.typed 𝓛 (acc (suc i)) u is-next).0) $
              assigns_last ! (bin ! (load ! (from ! (stop !)) (look ! 3 refl)) (lit ! tt) (record { fits = next_fits })) (from ! (stop !)) (store ! 3 refl (tt, record { fits = next_fits })) $
              forget ! 4 refl $ forget ! 5 refl $
              rewrite ! 3 (λ (j : ℕ). ‵ (fat full_share word l₄ 0 (vint w64 j))) (one_more i) refl $
              rewrite ! 2 (λ (z : Val). ‵ (fat full_share X.type l₁ 0 z)) (ap only (X.tells (acc (suc i)) (u ∷ []) is-next)) refl $
              keep ! (2 ∷ 3 ∷ 4 ∷ 5 ∷ 6 ∷ 7 ∷ 8 ∷ 0 ∷ 1 ∷ 9 ∷ 10 ∷ 11 ∷ 12 ∷ 13 ∷ 14 ∷ 15 ∷ []) $
              by ! (k (subst (λ (vs : List Val). Is X.row (acc (suc i)) vs) (X.tells (acc (suc i)) (u ∷ []) is-next) is-next))))))

          stops : (after : SProp 𝓤) → Fits n → ent 𝓤 (⋆ 𝓛 (At n)) (Wp 𝓤 H C Λ En (turn reads each) (after_turn 𝓤 H after Left))
          unfolding after_turn
          stops after there =
              qed 𝓛 (At n) ∵ exec ! C Λ En (turn reads each) (any_q (after_turn 𝓤 H after Left)) $
              assigns ! (bin ! (load ! (from ! (stop !)) (look ! 1 refl)) (load ! (from ! (stop !)) (look ! 5 refl)) tt) (from ! (stop !)) (init ! 2 refl (tt, tt)) $
              rewrite ! 2 (λ (t : Bool). ‵ (fat full_share ty_bool l₅ 0 (vbool t))) (fails (ltb n n) (λ z. lt_irrefl n (ltb→lt n n z))) refl $
              leaves_loop ! (load ! (from ! (stop !)) (look ! 2 refl)) $ exec ! C Λ En rest (at_ret En Post) $
              assigns ! (of_opd ! (load ! (from ! (stop !)) (look ! 0 refl))) (from ! (stop !)) (init ! 6 refl (X.typed 𝓛 (acc n) (X.val (acc n)) there).0) $
              returns ! (look ! 6 refl) $ forget ! 0 refl $ forget ! 1 refl $ forget ! 2 refl $ forget ! 4 refl $ forget ! 5 refl $ forget ! 6 refl $
              move ! (6 ∷ 9 ∷ []) $ free1 ! $ move ! (0 ∷ 8 ∷ []) $ free1 ! $ move ! (3 ∷ 7 ∷ []) $ free1 ! $ move ! (3 ∷ 6 ∷ []) $ free1 ! $ move ! (0 ∷ 5 ∷ []) $ free1 ! $ move ! (0 ∷ 4 ∷ []) $ free1 ! $ move ! (0 ∷ 3 ∷ []) $ free1 ! $ free0 ! $
              by ! (exits there)

          below : (t i : ℕ) → suc i + t ≡ n → Fits (suc i) → ent 𝓤 (⋆ 𝓛 (At (suc i))) (Below (suc t))
          below t i e next =
              via 𝓤 (Inv t)
              (via 𝓤 (guard 𝓤 (Facts t (suc i)) (⋆ 𝓛 (At (suc i)))) (guard_i 𝓤 (Facts t (suc i)) (⋆ 𝓛 (At (suc i))) (e, next))
              (ex_i 𝓤 (λ (j : ℕ). guard 𝓤 (Facts t j) (⋆ 𝓛 (At j))) (suc i)))
              (via 𝓤 (guard 𝓤 (t < suc t) (Inv t)) (guard_i 𝓤 (t < suc t) (Inv t) (omega arith)) (ex_i 𝓤 (λ (u : ℕ). guard 𝓤 (u < suc t) (Inv u)) t))

          turn_at : (t i : ℕ) → Facts t i → ent 𝓤 (⋆ 𝓛 (At i)) (Wp 𝓤 H C Λ En (turn reads each) (after_turn 𝓤 H (Below t) Left))
          turn_at zero i here =
              let e : n ≡ i = sym here.0 ∙ add-zero i in
              subst (λ (k : ℕ). ent 𝓤 (⋆ 𝓛 (At k)) (Wp 𝓤 H C Λ En (turn reads each) (after_turn 𝓤 H (Below zero) Left))) e (stops (Below zero) (subst Fits (sym e) here.1))
          turn_at (suc t) i here =
              let small : i < n = omega arith in
              let e : suc i + t ≡ n = omega arith in
              more i (Below (suc t)) small here.1 (λ next. below t i e next)

          turns : (t : ℕ) → ent 𝓤 (Inv t) (Wp 𝓤 H C Λ En (turn reads each) (after_turn 𝓤 H (Below t) Left))
          turns t = ex_e 𝓤 (λ (i : ℕ). guard 𝓤 (Facts t i) (⋆ 𝓛 (At i))) (λ i. guard_e 𝓤 (Facts t i) (⋆ 𝓛 (At i)) (λ here. turn_at t i here))

          loops : Fits 0 → ent 𝓤 (⋆ 𝓛 (At 0)) (Wp 𝓤 H C Λ En (loop (turn reads each)) Left)
          loops start =
              via 𝓤 (Inv n)
              (via 𝓤 (guard 𝓤 (Facts n 0) (⋆ 𝓛 (At 0))) (guard_i 𝓤 (Facts n 0) (⋆ 𝓛 (At 0)) (zero-add n, start)) (ex_i 𝓤 (λ (j : ℕ). guard 𝓤 (Facts n j) (⋆ 𝓛 (At j))) 0))
              (loop_rule 𝓤 H 𝓛.laws 𝓣 ◌<◌ lt-wf_rel.wf En (turn reads each) Left Inv turns n)

        -- the walk of the whole function
        sums : Is X.row a (X.val a ∷ []) → Room Z.the_row (length ys)
            → ent 𝓤 (sep 𝓤 (mean 𝓛 (Token 𝓤 κ q)) (sem 𝓛 (owns (X.row ∷ ShrSlice (named 0) κ Z.the_row ∷ usize ∷ []) (a, (l, (n, tt))) (X.val a ∷ [], (list_val l ∷ [], (vint w64 n ∷ [], tt))))))
            (WpFn 𝓤 H C Λ (summing X.type reads each) (X.val a ∷ list_val l ∷ vint w64 n ∷ []) Post)
        sums start room =
            qed 𝓛 (Token 𝓤 κ q ∷ ‵ (owns (X.row ∷ ShrSlice (named 0) κ Z.the_row ∷ usize ∷ []) (a, (l, (n, tt))) (X.val a ∷ [], (list_val l ∷ [], (vint w64 n ∷ [], tt)))) ∷ []) ∵
            enter ! C Λ (summing X.type reads each) (X.val a ∷ list_val l ∷ vint w64 n ∷ []) _ $
            alloc1 ! (λ l₀. alloc1 ! (λ l₁. alloc1 ! (λ l₂. alloc1 ! (λ l₃. alloc1 ! (λ l₄. alloc1 ! (λ l₅. alloc1 ! (λ l₆. alloc0 ! $ params1 ! $
            pass1 ! (init ! 10 refl (X.typed 𝓛 a (X.val a) start).0) $ pass1 ! (init ! 8 refl (tt, (tt, (record { fits = room.0 }, tt)))) $ pass1 ! (init ! 6 refl (tt, record { fits = n-fits })) $ pass0 ! $
            assigns ! (of_opd ! (lit ! tt)) (from ! (stop !)) (init ! 4 refl (tt, record { fits = lit< tt })) $
            move ! (15 ∷ []) $ fsplit ! $ move ! (1 ∷ []) $ fsplit ! $
            keep ! (13 ∷ 7 ∷ 5 ∷ 3 ∷ 11 ∷ 9 ∷ 15 ∷ 17 ∷ 0 ∷ 16 ∷ 14 ∷ 12 ∷ 10 ∷ 8 ∷ 6 ∷ 4 ∷ []) $ by ! (loops l₀ l₁ l₂ l₃ l₄ l₅ l₆ start))))))))

-- the function that a turn calls: the sum so far and a piece, and the next sum
abbrev stepping : Held → Ended
stepping X = record {
  signature = record { lifetimes = 0; outlives = []; params = plain (λ _. still X.row) ∷ plain (λ _. still Z.the_row) ∷ []; result = plain (λ _. X.row) };
  kept = (yes, (yes, tt));
}

module _ {M : Type 1} {𝓤 : Ura M} (𝓛 : Logic 𝓤) (reads : Callee) (b : Clauses 𝓤 reading) (given-b : (κ : Lft) (l : Bor (List Piece)) (i : ℕ) → (b (κ, tt) (l, (i, tt))).ghost)
    (asks-b : (κ : Lft) (l : Bor (List Piece)) (i : ℕ) → i < length l.now → ent 𝓤 (emp 𝓤) ((b (κ, tt) (l, (i, tt))).requires (given-b κ l i)))
    (tells-b : (κ : Lft) (l : Bor (List Piece)) (i : ℕ) (r : Piece) (ws : Lasts reading (κ, tt) (l, (i, tt))) → ent 𝓤 ((b (κ, tt) (l, (i, tt))).ensures (given-b κ l i) r (at_exit reading (κ, tt) (l, (i, tt)) ws)) (fact 𝓤 (r ≡ lent_piece l.now i)))
    (X : Held) (f : X.row.Denot → Piece → X.row.Denot) (each : Callee)
    (c : Clauses 𝓤 (over X X)) (d : Clauses 𝓤 (stepping X)) (given-d : (a : X.row.Denot) (z : Piece) → (d tt (a, (z, tt))).ghost) (Bears : X.row.Denot → Piece → Type 0) where
  open 𝓛 use {H}

  abbrev Each : Contract 𝓤
  Each = triple_of 𝓛 (stepping X).signature (closing 𝓛 (stepping X) d)

  abbrev to_each : X.row.Denot → Piece → Val → Val → Each.Ghost
  to_each a z v w = ((tt, tt, tt, (a, (z, tt)), (v ∷ [], (w ∷ [], tt))), given-d a z)

  -- the contract of a sum over a lent list, from that of the function which a turn calls
  pub sums_meet : ((a : X.row.Denot) (z : Piece) → Bears a z → ent 𝓤 (emp 𝓤) ((d tt (a, (z, tt))).requires (given-d a z)))
      → ((a : X.row.Denot) (z : Piece) (r : X.row.Denot) (ws : Lasts (stepping X) tt (a, (z, tt))) → ent 𝓤 ((d tt (a, (z, tt))).ensures (given-d a z) r (at_exit (stepping X) tt (a, (z, tt)) ws)) (fact 𝓤 (r ≡ f a z)))
      → ((κ : Lft) (a : X.row.Denot) (l : Bor (List Piece)) (n : ℕ) (g : (c (κ, tt) (a, (l, (n, tt)))).ghost)
      → ent 𝓤 ((c (κ, tt) (a, (l, (n, tt)))).requires g) (fact 𝓤 ((n ≤ length l.now) × ((j : ℕ) → j < n → Bears (up_to f j a l.now) (lent_piece l.now j)))))
      → ((κ : Lft) (a : X.row.Denot) (l : Bor (List Piece)) (n : ℕ) (g : (c (κ, tt) (a, (l, (n, tt)))).ghost)
      → ent 𝓤 (emp 𝓤) ((c (κ, tt) (a, (l, (n, tt)))).ensures g (up_to f n a l.now) (at_exit (over X X) (κ, tt) (a, (l, (n, tt))) (tt, (tt, (tt, tt))))))
      → (𝓣 : Tables 𝓤 H) → Triple 𝓤 (𝓣.C reads) (LentPiece 𝓛 reads b given-b asks-b tells-b) → Triple 𝓤 (𝓣.C each) Each
      → Meets 𝓛 (over X X).signature (WpFn 𝓤 H 𝓣.C 𝓣.Λ (summing X.type reads each)) (closing 𝓛 (over X X) c)
  sums_meet bears steps asks says-it 𝓣 known known-each =
      meets 𝓛 X X c (summing X.type reads each) 𝓣 (λ a l n. (n ≤ length l.now) × ((j : ℕ) → j < n → Bears (up_to f j a l.now) (lent_piece l.now j))) asks (λ κ q a l n g is-a room n-fits asked.
      sums 𝓛 reads b given-b asks-b tells-b κ q l X f a n n-fits asked.0 each (Ends 𝓛 X X c κ q a l n g) 𝓣 known
      (λ i w. Each.post (to_each (up_to f i a l.now) (lent_piece l.now i) (X.val (up_to f i a l.now)) w))
      (λ i small is-acc w is-piece. via 𝓤 _
      (passes 𝓛 (X.row ∷ Z.the_row ∷ []) (X.makes 𝓛, (pieces.makes 𝓛, tt)) (up_to f i a l.now, (lent_piece l.now i, tt)) (X.val (up_to f i a l.now) ∷ [], (w ∷ [], tt)) (is-acc, (is-piece, tt)) _
      (bears (up_to f i a l.now) (lent_piece l.now i) (asked.1 i small))) (known-each (to_each (up_to f i a l.now) (lent_piece l.now i) (X.val (up_to f i a l.now)) w)))
      (λ i w u. turned 𝓛 (stepping X) d tt (up_to f i a l.now, (lent_piece l.now i, tt)) (given-d (up_to f i a l.now) (lent_piece l.now i)) (up_to f (suc i) a l.now) (steps (up_to f i a l.now) (lent_piece l.now i)) u)
      (λ is-end. ends 𝓛 X X c κ q a l n g is-a n-fits (up_to f n a l.now) (X.val (up_to f n a l.now)) is-end (says-it κ a l n g)) is-a room)
