-- A loop that keeps one record and steps it where it stands: in each turn it is asked what finishes and what is released, the record is lent to `step` for a new lifetime and taken back, and what ran is seen.
--     finished = F(seen, plan, state); released = R(seen, plan, state); ran = step(&mut state, plan, finished, released); seen = S(seen, plan, ran, state); i += 1
-- Assumes nothing.
use mathlib.Core.Path.{◌≡◌, refl, sym, ◌∙◌, ap, subst}
use mathlib.Core.Bool.{Bool}
use mathlib.Core.List.{List, [], ◌∷◌}
use Prim.Native.Nat.{ℕ, zero, suc, ◌+◌, ◌<◌, ◌^◌}
use native.Mathlib.Nat.{add-zero, zero-add, lt_irrefl}
use native.Mathlib.Omega.{arith}
use lib.Dec.{ltb, lt→ltb, ltb→lt, lit<}
use lib.WfN.{lt-wf_rel}
use seplogic.Ra.Ura.{Ura}
use base.Fraction.{full_share}
use mir.Syntax.{Callee, Ty, Fn, Body as Code, local, value_local, memory_slot, block, named, erased, mut, w64, ty_bool, ty_ref, place, unsigned, copy, int, skip as skipᴹ, seq, assign, call, loop, cond, exit, return, rv_opd, addr_of, op2, add, lt}
use mir.Val.{Val, vbool, vint, vptr}
use base.Logic.{SProp, ent, sep, ex, guard, emp, id⊢, via, fst∗, ex_i, ex_e, guard_i, guard_e}
use base.Fml.{GName, ftrue, fat, froom, fdies, flft, flent, fsep}
use prog.Memory.{Memory}
use prog.Routine.{Routine}
use prog.Wp.{Out, Env, after_seq, after_block, after_turn, Calls, Loops, Wp, at_return, WpFn, Tables}
use types.Logic.{Logic, sem}
use sound.Loop.{loop_rule}
use sound.WpLaws.{FmC, fm_of, WpFn-mono}
use contract.Monad.{Fun, fact}
use types.Kit.{Item, ‵, raw, given, some, later, ◌⊛◌, ⋆, any_q, at_ret, ◌$◌, ◌∵◌, !, qed, by, learn, use1, use2, use3, await, pick, split, join, drop, move, keep, rewrite, fsplit, fjoin, fpick, fpack, suffices, frame, done}
use types.Run.{look, store, init, forget, stop, from, load, lit, of_opd, addr, bin, and_then, no_more, land, assigns, assigns_last, stays, leaves_loop, returns, enter, alloc1, alloc0, params1, pass1, pass0, free1, free0, exec}
use types.SemTy.{Body}
use types.Tokens.{lft_new, lft_end}
use denote.RattleType.{owns}
use denote.Builtin.{usize}
use denote.Laws.{Is, shows}
use denote.Exit.{yes}
use denote.Lend.{lends_ref, ref_back}
use denote.Memory.{cell_at, part_at, part_of, mem, pointee}
use denote.Plain.{uint_vals, uint_Tells, uint_Makes}
use denote.Ref.{MutBor, MutRef}
use denote.Signature.{plain}
use denote.Steps.{only, owned, heard, facts, nothing}
use denote.Struct.Steps.{spelt}
use denote.Triple.Call.{calls_at}
use denote.Triple.Clauses.{Ended, Clauses, closing, Lasts, lasts, at_exit}
use denote.Triple.Spec.{Meets, triple_of}
use denote.Triple.Statement.{Contract, Triple}
use denote.Triple.Walked.{says, Stays, stay_none, walk_of, AllGo, Goes-none, Walks, ends_at, walked, walk_Meets}
use Rattle.plans.specs.declared.Plan.{Plan}
use Rattle.dispatch.specs.Tick.{tick}
use Rattle.dispatch.specs.declared.State.{State}
use Rattle.jobs.specs.declared.Tasks.{Tasks}
use Rattle.dispatch.specs.declared.Ticked.{Ticked}
use Rattle.dispatch.specs.contracts.State as S
use Rattle.board.specs.Kept.{kept_for}
use Rattle.board.specs.Ran.{ran_of}
use Rattle.board.specs.declared.Ran.{Ran}
use Rattle.board.proofs.Settled.{Stepped}
use Rattle.board.proofs.Walk.{Held, plans, states, sets, rans, beside, still, word, one_more, holds, fails}
use Rattle.board.proofs.Calls.{Told, asks, Equates, told}
use Rattle.board.specs.contracts.step as step
use Rattle.board.proofs.step.Symbol.{name as #board·step}

-- ---- the code
abbrev turn : Callee → Callee → Callee → Code
turn F R S =
    seq (assign (place 10 []) (op2 (lt unsigned) (copy (place 6 [])) (copy (place 4 []))))
    (seq (cond (copy (place 10 [])) skipᴹ (exit 1))
    (seq (assign (place 11 []) (rv_opd (copy (place 5 []))))
    (seq (call F (copy (place 1 []) ∷ copy (place 2 []) ∷ copy (place 11 []) ∷ []) (place 7 []))
    (seq (assign (place 11 []) (rv_opd (copy (place 5 []))))
    (seq (call R (copy (place 1 []) ∷ copy (place 2 []) ∷ copy (place 11 []) ∷ []) (place 8 []))
    (seq (assign (place 12 []) (addr_of (place 5 [])))
    (seq (call #board·step (copy (place 12 []) ∷ copy (place 2 []) ∷ copy (place 7 []) ∷ copy (place 8 []) ∷ []) (place 9 []))
    (seq (assign (place 11 []) (rv_opd (copy (place 5 []))))
    (seq (call S (copy (place 1 []) ∷ copy (place 2 []) ∷ copy (place 9 []) ∷ copy (place 11 []) ∷ []) (place 1 []))
    (assign (place 6 []) (op2 (add unsigned) (copy (place 6 [])) (int w64 1))))))))))))

-- what follows the loop
abbrev rest : Callee → Code
rest E = seq (assign (place 13 []) (rv_opd (copy (place 5 [])))) (seq (call E (copy (place 1 []) ∷ copy (place 13 []) ∷ []) (place 0 [])) return)

abbrev lender : Ty
lender = ty_ref erased mut (pointee (S.the_row).written)

-- the function, with what was seen, the plan, the record and the number of ticks for parameters
abbrev pub keeping : Ty → Ty → Callee → Callee → Callee → Callee → Fn
keeping X Y F R S E = record {
  lifetimes = 0;
  outlives = [];
  ty_params = [];
  givens = 0;
  params = 4;
  locals = local Y value_local ∷ local X value_local ∷ local plans.type value_local ∷ local states.type value_local ∷ local word value_local ∷ local states.type memory_slot ∷ local word value_local ∷ local sets.type value_local
      ∷ local sets.type value_local ∷ local rans.type value_local ∷ local ty_bool value_local ∷ local states.type value_local ∷ local lender value_local ∷ local states.type value_local ∷ [];
  body = seq (assign (place 5 []) (rv_opd (copy (place 3 [])))) (seq (assign (place 6 []) (rv_opd (int w64 0))) (seq (block (loop (turn F R S))) (rest E)));
}

abbrev pub looping : Held → Held → Ended
looping X Y = record {
  signature = record { lifetimes = 0; outlives = []; params = plain (λ _. still X.row) ∷ plain (λ _. plans.row) ∷ plain (λ _. states.row) ∷ plain (λ _. usize) ∷ []; result = plain (λ _. Y.row) };
  kept = (yes, (yes, (yes, (yes, tt))));
}

-- a state's machine value is well made
abbrev Good : State → Type 0
Good s = Is states.row s (states.val s ∷ [])

module _ {M : Type 1} {𝓤 : Ura M} (𝓛 : Logic 𝓤) (at_mem : Memory → SProp 𝓤) (run : Routine → Fun 𝓤) where
  open 𝓛 use {H, A}

  abbrev pub Step : Contract 𝓤
  Step = triple_of 𝓛 step.signature (step.spec 𝓛 at_mem run)

  module _ where
    -- a local's record as what lies in memory, and back
    lies : (h : State) (b : ℕ) → Good h → ent 𝓤 (sem 𝓛 (fat full_share states.type b 0 (states.val h))) (sem 𝓛 (part_at states.row full_share h b 0))
    unfolding part_of
    lies h b is-h =
        qed 𝓛 (‵ (fat full_share states.type b 0 (states.val h)) ∷ []) ∵ use1 𝓛 (‵ (cell_at full_share states.row.mir (states.val h ∷ []) b 0)) (𝓛.laws.at_raw full_share states.type b 0 (states.val h)) $
        owned ! states.row (Is states.row) (states.makes 𝓛) h (states.val h ∷ []) is-h $ move ! (1 ∷ 0 ∷ []) $ fjoin ! $
        fpack ! (List Val) (λ vs. fsep (cell_at full_share states.row.mir vs b 0) (states.row.own_val h vs)) (states.val h ∷ []) $ done !

    stands : (h : State) (b : ℕ) → ent 𝓤 (sem 𝓛 (part_at states.row full_share h b 0)) (guard 𝓤 (Good h) (sem 𝓛 (fat full_share states.type b 0 (states.val h))))
    unfolding part_of
    stands h b =
        qed 𝓛 (‵ (part_at states.row full_share h b 0) ∷ []) ∵ fpick ! (λ vs. fsplit ! $
        spelt ! states.row (Is states.row) (shows 𝓛 states.row) (λ x. states.val x ∷ []) states.tells full_share h vs b 0 $
        move ! (1 ∷ []) $ facts ! states.row (Is states.row) (shows 𝓛 states.row) h (states.val h ∷ []) (λ is-h.
        use1 𝓛 (‵ (fat full_share states.type b 0 (states.val h))) (𝓛.laws.raw_at full_share states.type b 0 (states.val h)) $
        by ! (guard_i 𝓤 (Good h) (sem 𝓛 (fat full_share states.type b 0 (states.val h))) is-h)))

    -- the record lent under the name δ, and what `step`'s triple binds outside
    abbrev lent : State → ℕ → GName → MutBor State
    lent h b δ = record { ref_ptr = (b, 0); ghost_name = δ; now = h }

    module _ (X Y : Held) (F R : X.row.Denot → Plan → State → Tasks) (S : X.row.Denot → Plan → Ran → State → X.row.Denot) (E : X.row.Denot → State → Y.row.Denot) (#F #R #S #E : Callee)
        (p : Plan) (is-p : Is plans.row p (plans.val p ∷ [])) (n : ℕ) (n-fits : n < 2 ^ 64) where
      abbrev Fit : X.row.Denot → Type 0
      Fit x = Is X.row x (X.val x ∷ [])

      abbrev asked : X.row.Denot → State → Ticked
      asked x s = tick p s (F x p s) (R x p s)

      abbrev to : X.row.Denot → State → ℕ → GName → MutBor State × (Plan × (Tasks × (Tasks × Unit {0})))
      to x s b δ = (lent s b δ, (p, (F x p s, (R x p s, tt))))

      abbrev to_step : X.row.Denot → State → ℕ → ℕ → GName → Step.Ghost
      to_step x s α b δ = (((α ∷ [], tt), (full_share, tt), tt, to x s b δ, (vptr b 0 ∷ [], (plans.val p ∷ [], (sets.val (F x p s) ∷ [], (sets.val (R x p s) ∷ [], tt))))), tt)

      -- what it says at exit
      stepped : (x : X.row.Denot) (s : State) (α b : ℕ) (δ : GName) (r : Ran) (ws : Lasts step.ended (α ∷ [], tt) (to x s b δ))
          → ent 𝓤 ((step.clauses 𝓛 at_mem run (α ∷ [], tt) (to x s b δ)).ensures tt r (at_exit step.ended (α ∷ [], tt) (to x s b δ) ws)) (fact 𝓤 (Stepped p s (F x p s) (R x p s) r ws.0))
      stepped x s α b δ r ws = id⊢ 𝓤 _

      goes_step : (x : X.row.Denot) (s : State) → Is sets.row (F x p s) (sets.val (F x p s) ∷ []) → Is sets.row (R x p s) (sets.val (R x p s) ∷ []) → (α b : ℕ) (δ : GName)
          → ent 𝓤 (sep 𝓤 (A.lft (α ∷ []) full_share) (sem 𝓛 ((MutRef (named 0) (α ∷ []) states.row).own_val (lent s b δ) (vptr b 0 ∷ [])))) (Step.pre (to_step x s α b δ))
      goes_step x s is_f is-r α b δ =
          qed 𝓛 (‵ (flft (α ∷ []) full_share) ∷ ‵ ((MutRef (named 0) (α ∷ []) states.row).own_val (lent s b δ) (vptr b 0 ∷ [])) ∷ []) ∵ beside ! (id⊢ 𝓤 (emp 𝓤)) $
          nothing ! $ move ! (1 ∷ 0 ∷ []) $ join ! $ frame ! $ nothing ! $
          owned ! sets.row (Is sets.row) (sets.makes 𝓛) (R x p s) _ is-r $ fjoin ! $ owned ! sets.row (Is sets.row) (sets.makes 𝓛) (F x p s) _ is_f $ fjoin ! $
          owned ! plans.row (Is plans.row) (plans.makes 𝓛) p _ is-p $ fjoin ! $ move ! (1 ∷ 0 ∷ []) $ fjoin ! $ done !

      -- what each call answers
      module _ (𝓣 : Tables 𝓤 H) (known : Triple 𝓤 (𝓣.C #board·step) Step)
          (told-f : (x : X.row.Denot) (s : State) → Fit x → Good s → Told 𝓤 H 𝓣.C #F (X.val x ∷ plans.val p ∷ states.val s ∷ []) sets (F x p s))
          (told-r : (x : X.row.Denot) (s : State) → Fit x → Good s → Told 𝓤 H 𝓣.C #R (X.val x ∷ plans.val p ∷ states.val s ∷ []) sets (R x p s))
          (told-s : (x : X.row.Denot) (r : Ran) (s : State) → Fit x → Is rans.row r (rans.val r ∷ []) → Good s → Told 𝓤 H 𝓣.C #S (X.val x ∷ plans.val p ∷ rans.val r ∷ states.val s ∷ []) X (S x p r s))
          (told-e : (x : X.row.Denot) (s : State) → Fit x → Good s → Told 𝓤 H 𝓣.C #E (X.val x ∷ states.val s ∷ []) Y (E x s)) where
        abbrev C : Calls 𝓤 H
        C = 𝓣.C

        abbrev Λ : Loops 𝓤 H
        Λ = 𝓣.Λ

        abbrev fm : FmC 𝓤 H 𝓛.laws C
        fm = fm_of 𝓤 H 𝓛.laws 𝓣

        module _ (l₀ l₁ l₂ l₃ l₄ l₅ l₆ l₇ l₈ l₉ l₁₀ l₁₁ l₁₂ l₁₃ : ℕ) where
          abbrev En : Env 𝓤 H
          En = (Y.type, l₀) ∷ (X.type, l₁) ∷ (plans.type, l₂) ∷ (states.type, l₃) ∷ (word, l₄) ∷ (states.type, l₅) ∷ (word, l₆) ∷ (sets.type, l₇) ∷ (sets.type, l₈) ∷ (rans.type, l₉) ∷ (ty_bool, l₁₀)
              ∷ (states.type, l₁₁) ∷ (lender, l₁₂) ∷ (states.type, l₁₃) ∷ []

          -- [_1; _6; room for _10; the record _5; room for _7; _8; _9; _11; _12; the plan _2; _4; room for _3; _0; _13; that each local dies]
          abbrev At : ℕ → X.row.Denot → State → List (Item 𝓤)
          At i x s = ‵ (fat full_share X.type l₁ 0 (X.val x)) ∷ ‵ (fat full_share word l₆ 0 (vint w64 i)) ∷ ‵ (froom ty_bool l₁₀ 0) ∷ ‵ (fat full_share states.type l₅ 0 (states.val s))
              ∷ ‵ (froom sets.type l₇ 0) ∷ ‵ (froom sets.type l₈ 0) ∷ ‵ (froom rans.type l₉ 0) ∷ ‵ (froom states.type l₁₁ 0) ∷ ‵ (froom lender l₁₂ 0)
              ∷ ‵ (fat full_share plans.type l₂ 0 (plans.val p)) ∷ ‵ (fat full_share word l₄ 0 (vint w64 n)) ∷ ‵ (froom states.type l₃ 0) ∷ ‵ (froom Y.type l₀ 0) ∷ ‵ (froom states.type l₁₃ 0)
              ∷ ‵ (fdies Y.type l₀) ∷ ‵ (fdies X.type l₁) ∷ ‵ (fdies plans.type l₂) ∷ ‵ (fdies states.type l₃) ∷ ‵ (fdies word l₄) ∷ ‵ (fdies states.type l₅) ∷ ‵ (fdies word l₆)
              ∷ ‵ (fdies sets.type l₇) ∷ ‵ (fdies sets.type l₈) ∷ ‵ (fdies rans.type l₉) ∷ ‵ (fdies ty_bool l₁₀) ∷ ‵ (fdies states.type l₁₁) ∷ ‵ (fdies lender l₁₂) ∷ ‵ (fdies states.type l₁₃) ∷ []

          module _ (Post : Val → SProp 𝓤) where
            abbrev Left : Out → SProp 𝓤
            Left = after_block 𝓤 H (after_seq 𝓤 H (Wp 𝓤 H C Λ En (rest #E) (at_return 𝓤 H En Post)) (at_return 𝓤 H En Post))

            more : (i : ℕ) (x : X.row.Denot) (s : State) (after : SProp 𝓤) → i < n → Fit x → Good s
                → (Fit (S x p (ran_of (asked x s)) (asked x s).state) → Good (asked x s).state → ent 𝓤 (⋆ 𝓛 (At (suc i) (S x p (ran_of (asked x s)) (asked x s).state) (asked x s).state)) after)
                → ent 𝓤 (⋆ 𝓛 (At i x s)) (Wp 𝓤 H C Λ En (turn #F #R #S) (after_turn 𝓤 H after Left))
            unfolding after_turn
            more i x s after small is_x is-s k =
                let i_fits : i < 2 ^ 64 = omega arith in
                let next_fits : i + 1 < 2 ^ 64 = omega arith in
                qed 𝓛 (At i x s) ∵ exec ! C Λ En (turn #F #R #S) (any_q (after_turn 𝓤 H after Left)) $
                assigns ! (bin ! (load ! (from ! (stop !)) (look ! 1 refl)) (load ! (from ! (stop !)) (look ! 10 refl)) tt) (from ! (stop !)) (init ! 2 refl (tt, tt)) $
                rewrite ! 2 (λ (t : Bool). ‵ (fat full_share ty_bool l₁₀ 0 (vbool t))) (holds (ltb i n) (lt→ltb i n small)) refl $
                stays ! (load ! (from ! (stop !)) (look ! 2 refl)) $
                -- what finishes, and what is released
                assigns ! (of_opd ! (load ! (from ! (stop !)) (look ! 3 refl))) (from ! (stop !)) (init ! 7 refl (states.typed 𝓛 s _ is-s).0) $
                asks ! fm (X.val x ∷ plans.val p ∷ states.val s ∷ []) sets (F x p s) (told-f x s is_x is-s) (and_then ! (load ! (from ! (stop !)) (look ! 1 refl)) (and_then ! (load ! (from ! (stop !)) (look ! 10 refl)) (and_then ! (load ! (from ! (stop !)) (look ! 8 refl)) (no_more !)))) (λ is_f.
                land ! (from ! (stop !)) (init ! 4 refl (sets.typed 𝓛 (F x p s) _ is_f).0) $
                assigns ! (of_opd ! (load ! (from ! (stop !)) (look ! 3 refl))) (from ! (stop !)) (store ! 7 refl (states.typed 𝓛 s _ is-s).0) $
                asks ! fm (X.val x ∷ plans.val p ∷ states.val s ∷ []) sets (R x p s) (told-r x s is_x is-s) (and_then ! (load ! (from ! (stop !)) (look ! 1 refl)) (and_then ! (load ! (from ! (stop !)) (look ! 10 refl)) (and_then ! (load ! (from ! (stop !)) (look ! 8 refl)) (no_more !)))) (λ is-r.
                land ! (from ! (stop !)) (init ! 5 refl (sets.typed 𝓛 (R x p s) _ is-r).0) $
                assigns ! (addr ! (from ! (stop !))) (from ! (stop !)) (init ! 8 refl (tt, tt)) $
                -- the record is lent for a new lifetime
                move ! (3 ∷ []) $ use1 𝓛 (‵ (part_at states.row full_share s l₅ 0)) (lies s l₅ is-s) $
                lft_new ! tt (λ α. move ! (1 ∷ []) $
                use1 𝓛 (later (some (λ (δ : GName). ‵ ((MutRef (named 0) (α ∷ []) states.row).own_val (lent s l₅ δ) (vptr l₅ 0 ∷ [])) ⊛ ‵ (flent (α ∷ []) (Body (mem states.row) l₅ 0 δ))))) (lends_ref 𝓛 states.row (named 0) (α ∷ []) s l₅ 0) $
                await ! tt $ pick ! (λ δ. split ! $ move ! (2 ∷ 0 ∷ []) $
                use2 𝓛 (raw (Step.pre (to_step x s α l₅ δ))) (goes_step x s is_f is-r α l₅ δ) $
                -- [what `step` asks; the lender's part; _1; _6; _10; _7; _8; room for _9; _11; _12; _2; …]
                calls_at ! fm Step known (to_step x s α l₅ δ) (and_then ! (load ! (from ! (stop !)) (look ! 9 refl)) (and_then ! (load ! (from ! (stop !)) (look ! 10 refl)) (and_then ! (load ! (from ! (stop !)) (look ! 5 refl)) (and_then ! (load ! (from ! (stop !)) (look ! 6 refl)) (no_more !))))) (λ v.
                use1 𝓛 (later (some (λ (r : Ran). ((‵ (flft (α ∷ []) full_share) ⊛ ‵ ftrue) ⊛ ‵ (rans.row.own_val r (v ∷ []))) ⊛ some (λ (ws : Lasts step.ended (α ∷ [], tt) (to x s l₅ δ)).
                ‵ (lasts step.ended (α ∷ [], tt) (to x s l₅ δ) ws) ⊛ raw ((step.clauses 𝓛 at_mem run (α ∷ [], tt) (to x s l₅ δ)).ensures tt r (at_exit step.ended (α ∷ [], tt) (to x s l₅ δ) ws)))))) (id⊢ 𝓤 _) $ await ! tt $ pick ! (λ r.
                split ! $ move ! (1 ∷ []) $ pick ! (λ ws. split ! $ move ! (1 ∷ []) $ use1 𝓛 (raw (fact 𝓤 (Stepped p s (F x p s) (R x p s) r ws.0))) (stepped x s α l₅ δ r ws) $ heard ! (Stepped p s (F x p s) (R x p s) r ws.0) (λ e. fsplit ! $ move ! (1 ∷ []) $ drop ! $ fsplit ! $ move ! (1 ∷ []) $ drop ! $
                move ! (1 ∷ []) $ split ! $ move ! (1 ∷ []) $ facts ! rans.row (Is rans.row) (shows 𝓛 rans.row) r (v ∷ []) (λ is-ran. split ! $ move ! (1 ∷ []) $ drop ! $
                -- [the token; the last value; the lender's part; _1; _6; _10; _7; _8; room for _9; …]
                land ! (from ! (stop !)) (init ! 8 refl (rans.typed 𝓛 r _ is-ran).0) $
                rewrite ! 8 (λ (z : Val). ‵ (fat full_share rans.type l₉ 0 z)) (ap only (rans.tells r (v ∷ []) is-ran) ∙ ap rans.val e.0) refl $
                -- the lifetime is ended, and the record is taken back
                lft_end ! tt $ move ! (0 ∷ 2 ∷ 1 ∷ []) $ use3 𝓛 (later (‵ (part_at states.row full_share ws.0 l₅ 0))) (ref_back 𝓛 states.row (α ∷ []) δ ws.0 l₅ 0) $ await ! tt $
                rewrite ! 0 (λ (z : State). ‵ (part_at states.row full_share z l₅ 0)) e.1 refl $
                use1 𝓛 (given (Good (asked x s).state) (‵ (fat full_share states.type l₅ 0 (states.val (asked x s).state)))) (stands (asked x s).state l₅) $ learn ! (λ is-next.
                -- [the record; _1; _6; _10; _7; _8; _9; _11; _12; …]
                assigns ! (of_opd ! (load ! (from ! (stop !)) (look ! 0 refl))) (from ! (stop !)) (store ! 7 refl (states.typed 𝓛 (asked x s).state _ is-next).0) $
                asks ! fm (X.val x ∷ plans.val p ∷ rans.val (ran_of (asked x s)) ∷ states.val (asked x s).state ∷ []) X (S x p (ran_of (asked x s)) (asked x s).state)
                (told-s x (ran_of (asked x s)) (asked x s).state is_x (subst (λ (z : Ran). Is rans.row z (rans.val z ∷ [])) e.0 (subst (λ (vs : List Val). Is rans.row r vs) (rans.tells r (v ∷ []) is-ran) is-ran)) is-next)
                (and_then ! (load ! (from ! (stop !)) (look ! 2 refl)) (and_then ! (load ! (from ! (stop !)) (look ! 10 refl)) (and_then ! (load ! (from ! (stop !)) (look ! 7 refl)) (and_then ! (load ! (from ! (stop !)) (look ! 8 refl)) (no_more !))))) (λ is_seen.
                land ! (from ! (stop !)) (store ! 1 refl (X.typed 𝓛 (S x p (ran_of (asked x s)) (asked x s).state) _ is_seen).0) $
                assigns_last ! (bin ! (load ! (from ! (stop !)) (look ! 2 refl)) (lit ! tt) (record { fits = next_fits })) (from ! (stop !)) (store ! 2 refl (tt, record { fits = next_fits })) $
                forget ! 3 refl $ forget ! 4 refl $ forget ! 5 refl $ forget ! 6 refl $ forget ! 7 refl $ forget ! 8 refl $
                rewrite ! 2 (λ (j : ℕ). ‵ (fat full_share word l₆ 0 (vint w64 j))) (one_more i) refl $
                move ! (1 ∷ 2 ∷ 3 ∷ 0 ∷ []) $ by ! (k is_seen is-next))))))))))))

            stops : (x : X.row.Denot) (s : State) (after : SProp 𝓤) → Fit x → Good s → (Is Y.row (E x s) (Y.val (E x s) ∷ []) → ent 𝓤 (emp 𝓤) (Post (Y.val (E x s))))
                → ent 𝓤 (⋆ 𝓛 (At n x s)) (Wp 𝓤 H C Λ En (turn #F #R #S) (after_turn 𝓤 H after Left))
            unfolding after_turn
            stops x s after is_x is-s exits =
                qed 𝓛 (At n x s) ∵ exec ! C Λ En (turn #F #R #S) (any_q (after_turn 𝓤 H after Left)) $
                assigns ! (bin ! (load ! (from ! (stop !)) (look ! 1 refl)) (load ! (from ! (stop !)) (look ! 10 refl)) tt) (from ! (stop !)) (init ! 2 refl (tt, tt)) $
                rewrite ! 2 (λ (t : Bool). ‵ (fat full_share ty_bool l₁₀ 0 (vbool t))) (fails (ltb n n) (λ z. lt_irrefl n (ltb→lt n n z))) refl $
                leaves_loop ! (load ! (from ! (stop !)) (look ! 2 refl)) $ exec ! C Λ En (rest #E) (at_ret En Post) $
                assigns ! (of_opd ! (load ! (from ! (stop !)) (look ! 3 refl))) (from ! (stop !)) (init ! 13 refl (states.typed 𝓛 s _ is-s).0) $
                asks ! fm (X.val x ∷ states.val s ∷ []) Y (E x s) (told-e x s is_x is-s) (and_then ! (load ! (from ! (stop !)) (look ! 1 refl)) (and_then ! (load ! (from ! (stop !)) (look ! 14 refl)) (no_more !))) (λ is_y.
                land ! (from ! (stop !)) (init ! 12 refl (Y.typed 𝓛 (E x s) _ is_y).0) $
                returns ! (look ! 12 refl) $ forget ! 0 refl $ forget ! 1 refl $ forget ! 2 refl $ forget ! 3 refl $ forget ! 9 refl $ forget ! 10 refl $ forget ! 12 refl $ forget ! 13 refl $
                move ! (12 ∷ 14 ∷ []) $ free1 ! $ move ! (0 ∷ 13 ∷ []) $ free1 ! $ move ! (8 ∷ 12 ∷ []) $ free1 ! $ move ! (9 ∷ 11 ∷ []) $ free1 ! $ move ! (8 ∷ 10 ∷ []) $ free1 ! $ move ! (2 ∷ 9 ∷ []) $ free1 ! $ move ! (0 ∷ 8 ∷ []) $ free1 ! $
                move ! (1 ∷ 7 ∷ []) $ free1 ! $ move ! (1 ∷ 6 ∷ []) $ free1 ! $ move ! (1 ∷ 5 ∷ []) $ free1 ! $ move ! (0 ∷ 4 ∷ []) $ free1 ! $ move ! (0 ∷ 3 ∷ []) $ free1 ! $ move ! (0 ∷ 2 ∷ []) $ free1 ! $ move ! (0 ∷ 1 ∷ []) $ free1 ! $ free0 ! $
                by ! (exits is_y))

            -- what was seen, and the record, after i turns
            module _ (x₀ : X.row.Denot) (s₀ : State) where
              abbrev seen : ℕ → X.row.Denot
              seen i = (kept_for F R S p i x₀ s₀).0

              abbrev left : ℕ → State
              left i = (kept_for F R S p i x₀ s₀).1

              abbrev Facts : ℕ → ℕ → Type 0
              Facts t i = (i + t ≡ n) × Fit (seen i) × Good (left i)

              abbrev Here : ℕ → SProp 𝓤
              Here i = ⋆ 𝓛 (At i (seen i) (left i))

              abbrev Inv : ℕ → SProp 𝓤
              Inv t = ex 𝓤 (λ (i : ℕ). guard 𝓤 (Facts t i) (Here i))

              abbrev Below : ℕ → SProp 𝓤
              Below t = ex 𝓤 (λ (t' : ℕ). guard 𝓤 (t' < t) (Inv t'))

              below : (t i : ℕ) → suc i + t ≡ n → Fit (seen (suc i)) → Good (left (suc i)) → ent 𝓤 (Here (suc i)) (Below (suc t))
              below t i e is_x is-s =
                  via 𝓤 (Inv t)
                  (via 𝓤 (guard 𝓤 (Facts t (suc i)) (Here (suc i))) (guard_i 𝓤 (Facts t (suc i)) (Here (suc i)) (e, is_x, is-s))
                  (ex_i 𝓤 (λ (j : ℕ). guard 𝓤 (Facts t j) (Here j)) (suc i)))
                  (via 𝓤 (guard 𝓤 (t < suc t) (Inv t)) (guard_i 𝓤 (t < suc t) (Inv t) (omega arith)) (ex_i 𝓤 (λ (u : ℕ). guard 𝓤 (u < suc t) (Inv u)) t))

              module _ (exits : Is Y.row (E (seen n) (left n)) (Y.val (E (seen n) (left n)) ∷ []) → ent 𝓤 (emp 𝓤) (Post (Y.val (E (seen n) (left n))))) where
                turn_at : (t i : ℕ) → Facts t i → ent 𝓤 (Here i) (Wp 𝓤 H C Λ En (turn #F #R #S) (after_turn 𝓤 H (Below t) Left))
                unfolding kept_for
                turn_at zero i here =
                    let e : n ≡ i = sym here.0 ∙ add-zero i in
                    subst (λ (k : ℕ). ent 𝓤 (Here k) (Wp 𝓤 H C Λ En (turn #F #R #S) (after_turn 𝓤 H (Below zero) Left))) e
                    (stops (seen n) (left n) (Below zero) (subst (λ (k : ℕ). Fit (seen k)) (sym e) here.1) (subst (λ (k : ℕ). Good (left k)) (sym e) here.2) exits)
                turn_at (suc t) i here =
                    let small : i < n = omega arith in
                    let e : suc i + t ≡ n = omega arith in
                    more i (seen i) (left i) (Below (suc t)) small here.1 here.2 (λ is_x is-s. below t i e is_x is-s)

                turns : (t : ℕ) → ent 𝓤 (Inv t) (Wp 𝓤 H C Λ En (turn #F #R #S) (after_turn 𝓤 H (Below t) Left))
                turns t = ex_e 𝓤 (λ (i : ℕ). guard 𝓤 (Facts t i) (Here i)) (λ i. guard_e 𝓤 (Facts t i) (Here i) (λ here. turn_at t i here))

                loops : Fit x₀ → Good s₀ → ent 𝓤 (⋆ 𝓛 (At 0 x₀ s₀)) (Wp 𝓤 H C Λ En (loop (turn #F #R #S)) Left)
                unfolding kept_for
                loops is_x is-s =
                    via 𝓤 (Inv n)
                    (via 𝓤 (guard 𝓤 (Facts n 0) (Here 0)) (guard_i 𝓤 (Facts n 0) (Here 0) (zero-add n, is_x, is-s)) (ex_i 𝓤 (λ (j : ℕ). guard 𝓤 (Facts n j) (Here j)) 0))
                    (loop_rule 𝓤 H 𝓛.laws 𝓣 ◌<◌ lt-wf_rel.wf En (turn #F #R #S) Left Inv turns n)

        -- the walk of the whole function
        keeps : (x : X.row.Denot) (s : State) (Post : Val → SProp 𝓤) → Fit x → Good s
            → (Is Y.row (E (kept_for F R S p n x s).0 (kept_for F R S p n x s).1) (Y.val (E (kept_for F R S p n x s).0 (kept_for F R S p n x s).1) ∷ []) → ent 𝓤 (emp 𝓤) (Post (Y.val (E (kept_for F R S p n x s).0 (kept_for F R S p n x s).1))))
            → ent 𝓤 (emp 𝓤) (WpFn 𝓤 H C Λ (keeping X.type Y.type #F #R #S #E) (X.val x ∷ plans.val p ∷ states.val s ∷ vint w64 n ∷ []) Post)
        keeps x s Post is_x is-s exits =
            qed 𝓛 [] ∵ enter ! C Λ (keeping X.type Y.type #F #R #S #E) (X.val x ∷ plans.val p ∷ states.val s ∷ vint w64 n ∷ []) _ $
            alloc1 ! (λ l₀. alloc1 ! (λ l₁. alloc1 ! (λ l₂. alloc1 ! (λ l₃. alloc1 ! (λ l₄. alloc1 ! (λ l₅. alloc1 ! (λ l₆. alloc1 ! (λ l₇. alloc1 ! (λ l₈. alloc1 ! (λ l₉. alloc1 ! (λ l₁₀. alloc1 ! (λ l₁₁. alloc1 ! (λ l₁₂. alloc1 ! (λ l₁₃. alloc0 ! $ params1 ! $
            -- [room for _13; that it dies; …; room for _0; that it dies]
            pass1 ! (init ! 24 refl (X.typed 𝓛 x _ is_x).0) $ pass1 ! (init ! 22 refl (plans.typed 𝓛 p _ is-p).0) $ pass1 ! (init ! 20 refl (states.typed 𝓛 s _ is-s).0) $ pass1 ! (init ! 18 refl (tt, record { fits = n-fits })) $ pass0 ! $
            assigns ! (of_opd ! (load ! (from ! (stop !)) (look ! 20 refl))) (from ! (stop !)) (init ! 16 refl (states.typed 𝓛 s _ is-s).0) $
            assigns ! (of_opd ! (lit ! tt)) (from ! (stop !)) (init ! 14 refl (tt, record { fits = lit< tt })) $ forget ! 20 refl $
            keep ! (24 ∷ 14 ∷ 6 ∷ 16 ∷ 12 ∷ 10 ∷ 8 ∷ 4 ∷ 2 ∷ 22 ∷ 18 ∷ 20 ∷ 26 ∷ 0 ∷ 27 ∷ 25 ∷ 23 ∷ 21 ∷ 19 ∷ 17 ∷ 15 ∷ 13 ∷ 11 ∷ 9 ∷ 7 ∷ 5 ∷ 3 ∷ 1 ∷ []) $
            by ! (loops l₀ l₁ l₂ l₃ l₄ l₅ l₆ l₇ l₈ l₉ l₁₀ l₁₁ l₁₂ l₁₃ Post x s exits is_x is-s)))))))))))))))

module _ {M : Type 1} {𝓤 : Ura M} (𝓛 : Logic 𝓤) (at_mem : Memory → SProp 𝓤) (run : Routine → Fun 𝓤) (X Y : Held)
    (F R : X.row.Denot → Plan → State → Tasks) (S : X.row.Denot → Plan → Ran → State → X.row.Denot) (E : X.row.Denot → State → Y.row.Denot) (#F #R #S #E : Callee) where
  -- the contract of such a loop: it asks nothing, and the result is made of what was seen and of the record after n ticks
  open 𝓛 use {H}

  abbrev lastly : X.row.Denot → Plan → State → ℕ → Y.row.Denot
  lastly x p s n = E (kept_for F R S p n x s).0 (kept_for F R S p n x s).1

  abbrev clauses : Clauses 𝓤 (looping X Y)
  clauses κs a = record { ghost = Unit {0}; requires = λ g. emp 𝓤; ensures = λ g r ws. fact 𝓤 (r ≡ lastly a.0 a.1.0 a.1.1.0 a.1.1.1.0) }

  abbrev stayed : Stays (looping X Y).signature.params (looping X Y).kept
  stayed = (stay_none (λ _. still X.row) yes, (stay_none (λ _. plans.row) yes, (stay_none (λ _. states.row) yes, (stay_none (λ _. usize) yes, tt))))

  module _ (x : X.row.Denot) (p : Plan) (s : State) (n : ℕ) (is_x : Is X.row x (X.val x ∷ [])) (is-p : Is plans.row p (plans.val p ∷ [])) (is-s : Good s) (fits : n < 2 ^ 64) where
    abbrev binds : (walk_of 𝓛 (looping X Y) stayed clauses).Ghost
    binds = ((tt, tt, tt, (x, (p, (s, (n, tt)))), (X.val x ∷ [], (plans.val p ∷ [], (states.val s ∷ [], (vint w64 n ∷ [], tt))))), tt)

    ends : Is Y.row (lastly x p s n) (Y.val (lastly x p s n) ∷ []) → ent 𝓤 (emp 𝓤) ((walk_of 𝓛 (looping X Y) stayed clauses).post binds (Y.val (lastly x p s n)))
    ends is_y =
        qed 𝓛 [] ∵ suffices ! _ (ends_at 𝓛 (looping X Y) stayed clauses binds (Y.val (lastly x p s n)) (lastly x p s n) (tt, (tt, (tt, (tt, tt)))) (tt, (tt, (tt, (tt, tt))))) $ says ! refl $
        owned ! Y.row (Is Y.row) (Y.makes 𝓛) (lastly x p s n) _ is_y $ nothing ! $ owned ! usize (Is usize) (uint_Makes 𝓛 w64) n _ (refl, fits) $ fjoin ! $
        owned ! states.row (Is states.row) (states.makes 𝓛) s _ is-s $ fjoin ! $ owned ! plans.row (Is plans.row) (plans.makes 𝓛) p _ is-p $ fjoin ! $
        owned ! X.row (Is X.row) (X.makes 𝓛) x _ is_x $ fjoin ! $ nothing ! $ done !

  abbrev code : Fn
  code = keeping X.type Y.type #F #R #S #E

  module _ (𝓣 : Tables 𝓤 H) (known : Triple 𝓤 (𝓣.C #board·step) (Step 𝓛 at_mem run))
      (known-f : Triple 𝓤 (𝓣.C #F) (Equates 𝓛 (X ∷ plans ∷ states ∷ []) sets (λ a. F a.0 a.1.0 a.1.1.0))) (known-r : Triple 𝓤 (𝓣.C #R) (Equates 𝓛 (X ∷ plans ∷ states ∷ []) sets (λ a. R a.0 a.1.0 a.1.1.0)))
      (known-s : Triple 𝓤 (𝓣.C #S) (Equates 𝓛 (X ∷ plans ∷ rans ∷ states ∷ []) X (λ a. S a.0 a.1.0 a.1.1.0 a.1.1.1.0))) (known-e : Triple 𝓤 (𝓣.C #E) (Equates 𝓛 (X ∷ states ∷ []) Y (λ a. E a.0 a.1.0))) where
    kept_walks : Walks 𝓛 (looping X Y) stayed (WpFn 𝓤 H 𝓣.C 𝓣.Λ code) clauses
    kept_walks = walked 𝓛 (looping X Y) stayed clauses (WpFn 𝓤 H 𝓣.C 𝓣.Λ code)
        (λ κs. ((λ x. X.val x ∷ []), ((λ p. plans.val p ∷ []), ((λ s. states.val s ∷ []), (uint_vals w64, tt))))) (λ κs. (X.tells, (plans.tells, (states.tells, (uint_Tells w64, tt)))))
        (λ κs qs bounds a g are. via 𝓤 _ (fst∗ 𝓤 _ (emp 𝓤)) (via 𝓤 (emp 𝓤)
        (fst∗ 𝓤 (emp 𝓤) (sem 𝓛 (owns (X.row ∷ plans.row ∷ states.row ∷ usize ∷ []) a (X.val a.0 ∷ [], (plans.val a.1.0 ∷ [], (states.val a.1.1.0 ∷ [], (vint w64 a.1.1.1.0 ∷ [], tt)))))))
        (keeps 𝓛 at_mem run X Y F R S E #F #R #S #E a.1.0 are.1.0 a.1.1.1.0 are.1.1.1.0.1 𝓣 known
        (λ x s is_x is-s. told 𝓛 (X ∷ plans ∷ states ∷ []) sets _ 𝓣.C #F known-f (x, (a.1.0, (s, tt))) (is_x, (are.1.0, (is-s, tt))))
        (λ x s is_x is-s. told 𝓛 (X ∷ plans ∷ states ∷ []) sets _ 𝓣.C #R known-r (x, (a.1.0, (s, tt))) (is_x, (are.1.0, (is-s, tt))))
        (λ x r s is_x is-r is-s. told 𝓛 (X ∷ plans ∷ rans ∷ states ∷ []) X _ 𝓣.C #S known-s (x, (a.1.0, (r, (s, tt)))) (is_x, (are.1.0, (is-r, (is-s, tt)))))
        (λ x s is_x is-s. told 𝓛 (X ∷ states ∷ []) Y _ 𝓣.C #E known-e (x, (s, tt)) (is_x, (is-s, tt)))
        a.0 a.1.1.0 _ are.0 are.1.1.0 (ends a.0 a.1.0 a.1.1.0 a.1.1.1.0 are.0 are.1.0 are.1.1.0 are.1.1.1.0.1))))

    goes : AllGo 𝓛 0 (looping X Y).signature.params (looping X Y).kept stayed
    goes = (Goes-none 𝓛 0 (λ _. still X.row) yes (λ κs x f. refl), (Goes-none 𝓛 0 (λ _. plans.row) yes (λ κs x f. refl), (Goes-none 𝓛 0 (λ _. states.row) yes (λ κs x f. refl), (Goes-none 𝓛 0 (λ _. usize) yes (λ κs x f. refl), tt))))

    -- the loop meets its contract, if each function that it calls meets the one above
    pub keeps_meet : Meets 𝓛 (looping X Y).signature (WpFn 𝓤 H 𝓣.C 𝓣.Λ code) (closing 𝓛 (looping X Y) clauses)
    keeps_meet = walk_Meets 𝓛 (looping X Y) stayed goes clauses (WpFn 𝓤 H 𝓣.C 𝓣.Λ code) (WpFn-mono 𝓤 H 𝓛.laws 𝓣 code) kept_walks
