-- How long the lines of a listing can be, and that a listing is printed whole.
use mathlib.Core.Path.{◌≡◌}
use mathlib.Core.List.{List}
use Prim.Native.Nat.{ℕ, ◌+◌, ◌≤◌}
use native.Mathlib.Omega.{arith}
use lib.ListN.{length, take, length-append}
use Rattle.plans.specs.Pieces.{piece_of}
use Rattle.plans.specs.declared.Kind.{Kind}
use Rattle.plans.specs.declared.Kind.TheVariants.{Whole, Share}
use Rattle.plans.specs.declared.Piece.{Piece}
use Rattle.plans.specs.declared.Plan.{Plan}
use Rattle.planner.specs.Layout.{planned}
use Rattle.std.specs.Prelude.{Result}
use Rattle.tasks.specs.declared.Refusal.{Refusal}
use Rattle.tasks.specs.declared.Table.{Table}
use Rattle.texts.specs.Puts.{Puts}
use Rattle.texts.specs.declared.Text.{Text}
use mathlib.Core.Bool.{Bool, false}
use lib.Dec.{ltb}
use Rattle.texts.specs.Text.{put_end, put_in, ascii}
use Rattle.texts.proofs.Putting.{Put, has_room, put_first, digits_few, rows_few, put_whole}
use Rattle.texts.proofs.Telling.{answer_few}
use Rattle.planlines.specs.Listing.{head_text, head_most, kind_text, piece_text, piece_most, listing_text, listing_most, planned_text, lister_text}

pub head_few : (m n : ℕ) → length (head_text m n) ≤ head_most
unfolding head_text ascii
head_few m n = simp length-append (omega (arith, digits_few 20 m, digits_few 20 n))

-- where a listing has room, so has its first line
pub head_put : {t u : Text} (m n : ℕ) {b : Bool} → b ≡ ltb (length t.bytes.now) (t.end + listing_most) → b ≡ false → Puts head_most (head_text m n) t u → Put t head_most (head_text m n) u
head_put {t} m n e h p = let room : t.end + listing_most ≤ length t.bytes.now = has_room e h in put_first head_most (head_text m n) (head_few m n) (omega arith) p

pub kind_few : (k : Kind) → length (kind_text k) ≤ 7
unfolding ascii
kind_few Whole = omega arith
kind_few Share = omega arith

pub piece_few : (z : Piece) → length (piece_text z) ≤ piece_most
unfolding piece_text ascii
piece_few z = simp length-append (omega (arith, digits_few 20 z.task.0, digits_few 20 z.core.0, kind_few z.kind, digits_few 20 z.cost))

listing_few : (p : Plan) → length (listing_text p) ≤ listing_most
unfolding listing_text
listing_few p = simp length-append (omega (arith, head_few p.cores p.count, rows_few p.placed 128 69 (λ j. piece_text (piece_of p j)) (λ j. piece_few (piece_of p j))))

planned_few : (l : Result Plan Refusal) → length (planned_text l) ≤ listing_most
planned_few l = answer_few l _ listing_most (omega arith) listing_few

lister_few : (r : Result Table Refusal) → length (lister_text r) ≤ listing_most
unfolding lister_text
lister_few r = answer_few r _ listing_most (omega arith) (λ t. planned_few (planned t))

-- ---- what stands in the lent bytes, up to the end that is answered, is the whole text

pub planned_whole : (l : Result Plan Refusal) (lent : List ℕ) → listing_most ≤ length lent → take (put_end listing_most 0 lent (planned_text l)) (put_in listing_most 0 lent (planned_text l)) ≡ planned_text l
planned_whole l lent h = put_whole listing_most lent (planned_text l) (planned_few l) h

pub lister_whole : (r : Result Table Refusal) (lent : List ℕ) → listing_most ≤ length lent → take (put_end listing_most 0 lent (lister_text r)) (put_in listing_most 0 lent (lister_text r)) ≡ lister_text r
lister_whole r lent h = put_whole listing_most lent (lister_text r) (lister_few r) h
