use mathlib.Core.Path.{refl}
use Rattle.texts.proofs.Putting.{put_short, has_room, words_put}
use Rattle.texts.proofs.Text.words.Goals as goal

pub returns-then-is_short : goal.returns-then-is_short
returns-then-is_short c = put_short c.args.self.now c.is_short.ensures c.if-is_short.true

pub returns : goal.returns
returns c =
    let told = words_put c.args.self.now.end c.args.self.now.bytes.now c.args.words.now _ (has_room c.is_short.ensures c.if-is_short.false) c.copy_from_slice.ensures.after in
    record { end = told.0; bytes = told.1; lent = refl }
