use mathlib.Core.List.{append_assoc}
use native.Mathlib.Omega.{arith}
use Rattle.texts.proofs.Putting.{put_none, put_all, put_number, put_words}
use Rattle.texts.proofs.Text.telling.Goals as goal

pub returns : goal.returns
returns c = put_all (put_number (put_words (put_number (put_none c.args.self.now (omega arith)) 20 _ c.number.ensures (omega arith) (omega arith)) 27 _ c.words.ensures (omega arith) (omega arith)) 47 _ c.number-2.ensures (omega arith) (omega arith)) _ (simp append_assoc) 47 c.requires.1
