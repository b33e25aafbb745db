use Rattle.files.proofs.Fields.{reader}
use Rattle.files.specs.Fields.{read}
use lib.ListN.{drop}
use mathlib.Core.Path.{◌≡◌}
use Rattle.files.proofs.feed.Given as goal

abbrev pub invariant-loop-byte : goal.invariant-loop-byte
invariant-loop-byte l = read (reader l.f l.plan) (drop l.byte-index l.part) ≡ read (reader l.initial.f l.initial.plan) l.part
