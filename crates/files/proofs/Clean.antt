-- Clean records: 0 past their counts.
use mathlib.Core.Path.{◌≡◌, refl, sym, ap, ◌∙◌}
use mathlib.Core.List.{List}
use Prim.Native.Nat.{ℕ, ◌-◌, ◌<◌, ◌≤◌}
use native.Mathlib.Omega.{arith}
use lib.ListN.{length, get_or, take, replicate, get_or-eq_default, length-replicate}
use lib.Seq.{length-take-le}
use borrow.Rule.Slice.PartMut.{mid_of, put_mid, mid_len, same_len_mid}
use Rattle.std.proofs.lemmas.List.{get_or_append_left, get_or-append_right, get_or-take}
use Rattle.tasks.proofs.Tabulate.{replicate_at}
use Rattle.tasks.proofs.Padded.{padded_length, padded_in, padded_out, padded_is, padded_same}
use Rattle.tasks.specs.Below.{padded}
use Rattle.tasks.specs.Tables.{no_task}
use Rattle.tasks.specs.declared.Task.{Task}
use Rattle.plans.specs.Pieces.{no_piece, task_of, piece_of, SamePlan, CleanPlan}
use Rattle.plans.specs.declared.Piece.{Piece}
use Rattle.plans.specs.declared.Plan.{Plan}
use Rattle.files.specs.Grammar.{record_of}
use Rattle.files.specs.Reading.{clean_plan}
use Rattle.files.proofs.Filled.{filled_get, filled_length}

module _ {A : Type 0} (size : ℕ) (empty : A) (n : ℕ) (f : ℕ → A) where
  -- a clean list is cleaned to itself
  pub padded_again : padded size n empty (λ i. get_or (padded size n empty f) i empty) ≡ padded size n empty f
  padded_again = sym (padded_is size empty n (λ i. get_or (padded size n empty f) i empty) (padded size n empty f) (padded_length size empty n f) (λ i l b. refl) (λ i l b. padded_out size empty n f i l))

-- a list of which what is behind the first n entries was emptied
pub padded_emptied : {A : Type 0} (size : ℕ) (empty : A) (n : ℕ) (xs ys : List A) → length xs ≡ size → n ≤ size → ys ≡ replicate (length (mid_of n (size - n) xs)) empty → put_mid n (size - n) xs ys ≡ padded size n empty (λ i. get_or xs i empty)
padded_emptied {A = A} size empty n xs ys e h q = padded_is size empty n (λ i. get_or xs i empty) (put_mid n (size - n) xs ys) (same_len_mid n (size - n) xs ys long ∙ e) kept emptied
  where
    long : length ys ≡ length (mid_of n (size - n) xs)
    long = ap length q ∙ length-replicate _ empty

    front : length (take n xs) ≡ n
    front = length-take-le n xs (omega (arith, e))

    middle : length (mid_of n (size - n) xs) ≡ size - n
    middle = mid_len n size xs (omega (arith, e))

    kept : (i : ℕ) → i < n → i < size → get_or (put_mid n (size - n) xs ys) i empty ≡ get_or xs i empty
    kept i l b = get_or_append_left (take n xs) _ empty i (omega (arith, front)) ∙ get_or-take n xs i empty l

    emptied : (i : ℕ) → n ≤ i → i < size → get_or (put_mid n (size - n) xs ys) i empty ≡ empty
    emptied i l b =
        get_or-append_right (take n xs) _ n i empty front l
        ∙ get_or_append_left ys _ empty (i - n) (omega (arith, long, middle))
        ∙ ap (λ (zs : List A). get_or zs (i - n) empty) q ∙ replicate_at _ (i - n) empty

-- a clean plan is cleaned to itself
pub clean_plan_is : (p : Plan) → CleanPlan p → length p.tasks ≡ 64 → length p.pieces ≡ 128 → clean_plan p ≡ p
clean_plan_is p k e f =
    let ts : p.tasks ≡ padded 64 p.count no_task (task_of p) = padded_is 64 no_task p.count (task_of p) p.tasks e (λ i l b. refl) (λ i l b. k.tasks i l) in
    let pc : p.pieces ≡ padded 128 p.placed no_piece (piece_of p) = padded_is 128 no_piece p.placed (piece_of p) p.pieces f (λ j l b. refl) (λ j l b. k.pieces j l) in
    ap (λ (xs : List Task). record { cores = p.cores; count = p.count; tasks = xs; placed = p.placed; pieces = padded 128 p.placed no_piece (piece_of p) }) (sym ts) ∙ ap (λ (xs : List Piece). record { cores = p.cores; count = p.count; tasks = p.tasks; placed = p.placed; pieces = xs }) (sym pc)

-- a plan and its clean record are the same
pub clean_plan_same : (p : Plan) → p.count ≤ 64 → p.placed ≤ 128 → SamePlan p (clean_plan p)
clean_plan_same p h k = record { cores = refl; count = refl; tasks = λ i l. sym (padded_in 64 no_task p.count (task_of p) i l (omega arith)); placed = refl; pieces = λ j l. sym (padded_in 128 no_piece p.placed (piece_of p) j l (omega arith)) }

-- plans that are the same have one clean record
pub clean_plans : (a b : Plan) → SamePlan a b → clean_plan a ≡ clean_plan b
clean_plans a b e = rw (padded_same 64 no_task a.count (task_of a) (task_of b) e.tasks, padded_same 128 no_piece a.placed (piece_of a) (piece_of b) e.pieces, e.cores, e.count, e.placed)

-- a record that fields name, with room for them all, is clean
pub record_clean : (m : ℕ) (ts : List Task) (ps : List Piece) → length ts ≤ 64 → length ps ≤ 128 → clean_plan (record_of m ts ps) ≡ record_of m ts ps
record_clean m ts ps h k = clean_plan_is (record_of m ts ps) (record { tasks = λ i l. filled_get 64 no_task ts i ∙ get_or-eq_default ts no_task l; pieces = λ j l. filled_get 128 no_piece ps j ∙ get_or-eq_default ps no_piece l }) (filled_length 64 no_task ts h) (filled_length 128 no_piece ps k)
