-- A text that is put into lent bytes where the text so far ends.
use Rattle.std.specs.Prelude.{List, ◌≡◌, ℕ}
use Rattle.texts.specs.Text.{put_end, put_in}
use Rattle.texts.specs.declared.Text.{Text}

-- `said` was put in, if there was room: where the text ends then, all lent bytes then, and that they are the same lent bytes
pub record Puts (room : ℕ) (said : List ℕ) (before after : Text) : Type 0 where
  pub end : after.end ≡ put_end room before.end before.bytes.now said
  pub bytes : after.bytes.now ≡ put_in room before.end before.bytes.now said
  pub lent : after.bytes.ghost_name ≡ before.bytes.ghost_name
