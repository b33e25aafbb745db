-- What the lister prints, byte for byte.
use Rattle.std.specs.Prelude.{Result, List, ◌++◌, ℕ, min}
use Rattle.tasks.specs.Below.{row}
use Rattle.tasks.specs.declared.Refusal.{Refusal}
use Rattle.tasks.specs.declared.Table.{Table}
use Rattle.plans.specs.Pieces.{piece_of}
use Rattle.plans.specs.declared.Kind.{Kind}
use Rattle.plans.specs.declared.Kind.TheVariants.{Whole, Share}
use Rattle.plans.specs.declared.Piece.{Piece}
use Rattle.plans.specs.declared.Plan.{Plan}
use Rattle.planner.specs.Layout.{planned}
use Rattle.texts.specs.Telling.{answer_text}
use Rattle.texts.specs.Text.{ascii, decimal}

-- `cores 2 tasks 3`
unfoldable pub head_text : ℕ → ℕ → List ℕ
head_text m n = ascii "cores " ++ (decimal m ++ (ascii " tasks " ++ (decimal n ++ ascii "\n")))

abbrev pub kind_text : Kind → List ℕ
kind_text Whole = ascii " whole "
kind_text Share = ascii " share "

-- each piece: task, core, kind, cost, as `2 0 share 4`
unfoldable pub piece_text : Piece → List ℕ
piece_text z = decimal z.task.0 ++ (ascii " " ++ (decimal z.core.0 ++ (kind_text z.kind ++ (decimal z.cost ++ ascii "\n"))))

-- the most bytes that the first line can have, and a piece's line, and a listing: the first line and 128 pieces
abbrev pub head_most : ℕ
head_most = 54

abbrev pub piece_most : ℕ
piece_most = 69

abbrev pub listing_most : ℕ
listing_most = 8886

-- a first line gives cores and tasks; then each piece
unfoldable pub listing_text : Plan → List ℕ
listing_text p = head_text p.cores p.count ++ row (min p.placed 128) (λ j. piece_text (piece_of p j))

abbrev pub planned_text : Result Plan Refusal → List ℕ
planned_text l = answer_text l listing_text

unfoldable pub lister_text : Result Table Refusal → List ℕ
lister_text r = answer_text r (λ t. planned_text (planned t))
