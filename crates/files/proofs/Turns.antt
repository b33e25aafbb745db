-- A good field is taken: what the reader knows behind it is what document 01 says of the fields before.
use mathlib.Core.Path.{◌≡◌, refl, sym, ◌∙◌}
use mathlib.Core.Bool.{Bool, true, false, not, ◌&&◌, ◌||◌}
use mathlib.Core.List.{List, [], ◌∷◌, ◌++◌, append_assoc}
use mathlib.Core.Logic.{◌⊎◌, inl, inr}
use Prim.Native.Nat.{ℕ, ◌+◌, ◌≤◌, ◌<◌}
use native.Mathlib.Omega.{arith}
use lib.Dec.{leb, ltb, eqb}
use lib.ListN.{length, get_or, length-append}
use borrow.Author.Tests.{eq-eqb, ne_eqb, le-leb, lt-leb, ltb-false}
use Rattle.tasks.proofs.Bools.{both, clash, or_false, right_one}
use Rattle.tasks.proofs.Places.{further_is}
use Rattle.tasks.specs.Tables.{no_task}
use Rattle.tasks.specs.declared.Task.{Task}
use Rattle.plans.specs.Pieces.{no_piece}
use Rattle.plans.specs.declared.Piece.{Piece}
use Rattle.files.specs.Fields.{tag, task_in, piece_in, verdict, field_at, next_field, with_task, with_piece, taken}
use Rattle.files.specs.declared.Reader.{Reader}
use Rattle.files.proofs.Fields.{reader, next_piece, next_other, piece_added, piece_left, cores_added, task_added, piece_room, good_room}
use Rattle.files.proofs.Found.{Found, good_found, tag_cases}
use Rattle.files.specs.Grammar.{filled_to, tag_of, task_of_field, piece_of_field, behind, fault, tasks_in, pieces_in, kinds_fit, record_of}
use Rattle.files.proofs.Filled.{filled_get, filled_set}
use Rattle.files.proofs.Holding.{holding, known, verdict_is}
use Rattle.files.proofs.Named.{tasks_more, tasks_other, pieces_more, pieces_other, kinds_more, kinds_other, end_from, cores_from, cores_other, end_piece, end_other}

-- the reader r is at a field behind the good fields fs, which began at k with the rest known; if it is spoilt the shape is bad
pub record Through (o : Bool) (k e : ℕ) (w : Bool) (m : ℕ) (ts : List Task) (ps : List Piece) (fs : List (List ℕ)) (r : Reader) : Type 0 where
  pub place : ℕ
  pub spoilt : Bool
  pub taken : List Piece
  pub is : r ≡ reader (field_at o place (end_from k e fs) spoilt) (record_of (cores_from (eqb k 0) m fs) (ts ++ tasks_in fs) taken)
  pub plain : spoilt ≡ false → (w ≡ false) × ((taken ≡ ps ++ pieces_in fs) × (kinds_fit fs ≡ true))
  pub spoils : spoilt ≡ true → (w ≡ true) ⊎ ((kinds_fit fs ≡ false) ⊎ (128 < length ps + length (pieces_in fs)))

-- one good field f at k: what is known behind it
pub record Turn (o : Bool) (k e : ℕ) (w : Bool) (m : ℕ) (ts : List Task) (ps : List Piece) (f : List ℕ) : Type 0 where
  pub end : ℕ
  pub spoilt : Bool
  pub cores : ℕ
  pub tasks : List Task
  pub pieces : List Piece
  pub next : taken (holding o k e w f) (record_of m ts ps) ≡ reader (field_at o (k + length f) end spoilt) (record_of cores tasks pieces)
  pub before : behind (known k e (length ts)) f ≡ known (k + length f) end (length tasks)
  pub ends : end ≤ k + length f
  pub back : (fs : List (List ℕ)) (r : Reader) → Through o (k + length f) end spoilt cores tasks pieces fs r → Through o k e w m ts ps (f ∷ fs) r

-- a record with one task more
more_task : (m : ℕ) (ts : List Task) (ps : List Piece) (t : Task) → length ts < 64 → with_task (record_of m ts ps) t ≡ record_of m (ts ++ (t ∷ [])) ps
more_task m ts ps t h = rw (filled_set 64 no_task ts t h, length-append ts (t ∷ []))

-- a record with one piece more
more_piece : (m : ℕ) (ts : List Task) (ps : List Piece) (z : Piece) → length ps < 128 → with_piece (record_of m ts ps) z ≡ record_of m ts (ps ++ (z ∷ []))
more_piece m ts ps z h = rw (filled_set 128 no_piece ps z h, length-append ps (z ∷ []))

module _ (o : Bool) (k e : ℕ) (w : Bool) (m : ℕ) (ts : List Task) (ps : List Piece) (f : List ℕ) (long : 3 ≤ length f) (low : e ≤ k) (most : k + length f ≤ 18446744073709551615) where
  -- the reader's tag is the field's
  tag_is : tag (holding o k e w f) ≡ tag_of f
  tag_is = filled_get 15 0 f 0

  -- behind a core count or a task the tasks end at the next field
  other_next : (n : ℕ) → (tag_of f ≡ 3 → ⊥) → next_field (holding o k e w f) n ≡ field_at o (k + length f) (k + length f) w
  other_next n t = sym (next_other (holding o k e w f) n (k + length f) (sym (further_is k (length f) most)) (λ q. t (sym tag_is ∙ q)))

  -- a core count is taken
  cores_turn : tag_of f ≡ 1 → k ≡ 0 → Turn o k e w m ts ps f
  cores_turn t z = record {
    end = k + length f;
    spoilt = w;
    cores = get_or f 3 0;
    tasks = ts;
    pieces = ps;
    next = rw (other_next (length ps) (λ q. omega arith), ← cores_added (holding o k e w f) (record_of m ts ps) (λ q. omega (arith, tag_is)) (tag_is ∙ t), filled_get 15 0 f 3);
    before = rw (t, ne_eqb (k + length f) 0 (λ q. omega arith), le-leb k e (omega arith), le-leb (k + length f) (k + length f) (omega arith));
    ends = omega arith;
    back = λ fs r h. record {
      place = h.place;
      spoilt = h.spoilt;
      taken = h.taken;
      is = h.is ∙ rw (end_other k e f fs (omega arith) (λ q. omega arith), ne_eqb (k + length f) 0 (λ q. omega arith), eq-eqb k 0 z, eq-eqb (tag_of f) 1 t, tasks_other f fs (λ q. omega arith));
      plain = λ q. rw (pieces_other f fs (λ c. omega arith), kinds_other f fs (λ c. omega arith)) (h.plain q);
      spoils = λ q. rw (pieces_other f fs (λ c. omega arith), kinds_other f fs (λ c. omega arith)) (h.spoils q);
    };
  }

  -- a task is taken
  task_turn : tag_of f ≡ 2 → k ≤ e → length ts < 64 → Turn o k e w m ts ps f
  task_turn t z room = record {
    end = k + length f;
    spoilt = w;
    cores = m;
    tasks = ts ++ (task_of_field f ∷ []);
    pieces = ps;
    next = rw (other_next (length ps) (λ q. omega arith), ← task_added (holding o k e w f) (record_of m ts ps) (λ q. omega (arith, tag_is)) (λ q. omega (arith, tag_is)), task_is) (rw (more_task m ts ps (task_of_field f) room));
    before = rw (t, ne_eqb (k + length f) 0 (λ q. omega arith), le-leb k e z, le-leb (k + length f) (k + length f) (omega arith), length-append ts (task_of_field f ∷ []));
    ends = omega arith;
    back = λ fs r h. record {
      place = h.place;
      spoilt = h.spoilt;
      taken = h.taken;
      is = h.is ∙ rw (end_other k e f fs z (λ q. omega arith), ne_eqb (k + length f) 0 (λ q. omega arith), cores_other (eqb k 0) m f fs (λ q. omega arith), tasks_more f fs t, append_assoc ts (task_of_field f ∷ []) (tasks_in fs));
      plain = λ q. rw (pieces_other f fs (λ c. omega arith), kinds_other f fs (λ c. omega arith)) (h.plain q);
      spoils = λ q. rw (pieces_other f fs (λ c. omega arith), kinds_other f fs (λ c. omega arith)) (h.spoils q);
    };
  }
    where
      task_is : task_in (holding o k e w f) ≡ task_of_field f
      task_is = simp filled_get

  -- a piece is taken, or spoils the shape
  piece_turn : tag_of f ≡ 3 → Turn o k e w m ts ps f
  piece_turn t = go _ refl
    where
      piece_is : piece_in (holding o k e w f) ≡ piece_of_field f
      piece_is = simp filled_get

      test_is : ltb (get_or (filled_to 15 0 f) 5 0) 2 && ltb (length ps) 128 ≡ ltb (get_or f 5 0) 2 && ltb (length ps) 128
      test_is = rw (filled_get 15 0 f 5)

      known_is : behind (known k e (length ts)) f ≡ known (k + length f) e (length ts)
      known_is = rw (t, ne_eqb (k + length f) 0 (λ q. omega arith), lt-leb (k + length f) e (omega arith), right_one (not (leb k e)) {b = true} refl)

      next_is : (b : Bool) → ltb (get_or f 5 0) 2 && ltb (length ps) 128 ≡ b → next_field (holding o k e w f) (length ps) ≡ field_at o (k + length f) e (w || not b)
      next_is b q = sym (next_piece (holding o k e w f) (length ps) (k + length f) (sym (further_is k (length f) most)) (tag_is ∙ t)) ∙ rw (test_is, q)

      read_is : (fs : List (List ℕ)) (r : Reader) (place : ℕ) (spoilt : Bool) (z : List Piece)
          → r ≡ reader (field_at o place (end_from (k + length f) e fs) spoilt) (record_of (cores_from (eqb (k + length f) 0) m fs) (ts ++ tasks_in fs) z)
          → r ≡ reader (field_at o place (end_from k e (f ∷ fs)) spoilt) (record_of (cores_from (eqb k 0) m (f ∷ fs)) (ts ++ tasks_in (f ∷ fs)) z)
      read_is fs r place spoilt z h = h ∙ rw (end_piece k e (k + length f) f fs low (omega arith) t, ne_eqb (k + length f) 0 (λ q. omega arith), cores_other (eqb k 0) m f fs (λ q. omega arith), tasks_other f fs (λ q. omega arith))

      go : (b : Bool) → ltb (get_or f 5 0) 2 && ltb (length ps) 128 ≡ b → Turn o k e w m ts ps f
      go true q = record {
        end = e;
        spoilt = w;
        cores = m;
        tasks = ts;
        pieces = ps ++ (piece_of_field f ∷ []);
        next = rw (next_is true q, or_false w, ← piece_added (holding o k e w f) (record_of m ts ps) (tag_is ∙ t) (test_is ∙ q), piece_is) (rw (more_piece m ts ps (piece_of_field f) (piece_room (holding o k e w f) (length ps) (test_is ∙ q))));
        before = known_is;
        ends = omega arith;
        back = λ fs r h. record {
          place = h.place;
          spoilt = h.spoilt;
          taken = h.taken;
          is = read_is fs r h.place h.spoilt h.taken h.is;
          plain = λ c. plain fs h.taken (h.plain c);
          spoils = λ c. spoils fs (h.spoils c);
        };
      }
        where
          kind : ltb (get_or f 5 0) 2 ≡ true
          kind = (both {b = ltb (length ps) 128} q).0

          plain : (fs : List (List ℕ)) (z : List Piece) → (w ≡ false) × ((z ≡ (ps ++ (piece_of_field f ∷ [])) ++ pieces_in fs) × (kinds_fit fs ≡ true)) → (w ≡ false) × ((z ≡ ps ++ pieces_in (f ∷ fs)) × (kinds_fit (f ∷ fs) ≡ true))
          plain fs z h = rw (pieces_more f fs t, kinds_more f fs t, kind) (h.0, (h.1.0 ∙ append_assoc ps (piece_of_field f ∷ []) (pieces_in fs), h.1.1))

          spoils : (fs : List (List ℕ)) → (w ≡ true) ⊎ ((kinds_fit fs ≡ false) ⊎ (128 < length (ps ++ (piece_of_field f ∷ [])) + length (pieces_in fs))) → (w ≡ true) ⊎ ((kinds_fit (f ∷ fs) ≡ false) ⊎ (128 < length ps + length (pieces_in (f ∷ fs))))
          spoils fs (inl a) = inl a
          spoils fs (inr (inl a)) = inr (inl (rw (kinds_more f fs t, kind) a))
          spoils fs (inr (inr l)) = inr (inr (rw (pieces_more f fs t) (omega (arith, length-append ps (piece_of_field f ∷ [])))))
      go false q = record {
        end = e;
        spoilt = true;
        cores = m;
        tasks = ts;
        pieces = ps;
        next = rw (next_is false q, right_one w {b = true} refl, ← piece_left (holding o k e w f) (record_of m ts ps) (tag_is ∙ t) (test_is ∙ q));
        before = known_is;
        ends = omega arith;
        back = λ fs r h. record {
          place = h.place;
          spoilt = h.spoilt;
          taken = h.taken;
          is = read_is fs r h.place h.spoilt h.taken h.is;
          plain = λ c. clash refl (h.plain c).0;
          spoils = λ c. inr (spoils fs _ refl);
        };
      }
        where
          spoils : (fs : List (List ℕ)) (b : Bool) → ltb (get_or f 5 0) 2 ≡ b → (kinds_fit (f ∷ fs) ≡ false) ⊎ (128 < length ps + length (pieces_in (f ∷ fs)))
          spoils fs true c = inr (rw (pieces_more f fs t) (omega (arith, ltb-false (length ps) 128 (rw c at q))))
          spoils fs false c = inl (rw (kinds_more f fs t, c))

-- every good field is one of the three
pub good_turn : (o : Bool) (k e : ℕ) (w : Bool) (m : ℕ) (ts : List Task) (ps : List Piece) (f : List ℕ) → e ≤ k → k + length f ≤ 18446744073709551615 → fault o (known k e (length ts)) f ≡ 0 → Turn o k e w m ts ps f
good_turn o k e w m ts ps f low most h = go (tag_cases (holding o k e w f) found.fits)
  where
    ok : verdict (holding o k e w f) (length ts) ≡ 0
    ok = verdict_is o k e w f (length ts) ∙ h

    found : Found (holding o k e w f)
    found = good_found (holding o k e w f) (length ts) ok

    long : 3 ≤ length f
    long = omega (arith, found.whole)

    tag_same : tag (holding o k e w f) ≡ tag_of f
    tag_same = filled_get 15 0 f 0

    go : ((tag (holding o k e w f) ≡ 1) × (k ≡ 0)) ⊎ (((tag (holding o k e w f) ≡ 2) × (k ≤ e)) ⊎ ((tag (holding o k e w f) ≡ 3) × (o ≡ true))) → Turn o k e w m ts ps f
    go (inl t) = cores_turn o k e w m ts ps f long low most (sym tag_same ∙ t.0) t.1
    go (inr (inl t)) = task_turn o k e w m ts ps f long low most (sym tag_same ∙ t.0) t.1 (good_room (holding o k e w f) (length ts) ok (λ q. omega arith) (λ q. omega arith))
    go (inr (inr t)) = piece_turn o k e w m ts ps f long low most (sym tag_same ∙ t.0)
