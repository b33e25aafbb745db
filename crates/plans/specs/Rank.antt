-- Rank on a core.
use Rattle.std.specs.Prelude.{Bool, true, false, ◌&&◌, ◌||◌, ℕ, ltb, eqb}
use Rattle.tasks.specs.declared.Task.{Task}
use Rattle.plans.specs.declared.Kind.{Kind}
use Rattle.plans.specs.declared.Kind.TheVariants.{Whole, Share}
use Rattle.plans.specs.declared.Piece.{Piece}

-- Shares stand above whole pieces. Among shares the later task number is above.
-- Among whole pieces the shorter d is above; on equal d the smaller task number.
-- A piece is given by its kind, its task's deadline and its task's number.
abbrev pub outranks : Kind → ℕ → ℕ → Kind → ℕ → ℕ → Bool
outranks Share d i Whole e k = true
outranks Whole d i Share e k = false
outranks Share d i Share e k = ltb k i
outranks Whole d i Whole e k = ltb d e || (eqb d e && ltb i k)

-- piece a is on the core of piece b and ranked above it
unfoldable pub above : (ℕ → Task) → Piece → Piece → Bool
above ts a b =
    eqb a.core.0 b.core.0
    && outranks a.kind (ts a.task.0).deadline a.task.0 b.kind (ts b.task.0).deadline b.task.0
