-- Reading in parts gives what reading the whole gives.
use mathlib.Core.Path.{◌≡◌, refl, ap}
use mathlib.Core.Bool.{true, false}
use mathlib.Core.List.{List, [], ◌∷◌, ◌++◌}
use Prim.Native.Nat.{ℕ}
use Rattle.files.specs.Fields.{step, read}
use Rattle.files.specs.Reading.{begun, table_closed, plan_closed}
use Rattle.files.specs.Files.{table_read, plan_read}
use Rattle.files.specs.declared.Default.{Default}
use Rattle.files.specs.declared.Reader.{Reader}

pub read_parts : (r : Reader) (a b : List ℕ) → read (read r a) b ≡ read r (a ++ b)
unfolding read
read_parts r [] b = refl
read_parts r (x ∷ a) b = read_parts (step r x) a b

-- a file that comes in two parts is read as the whole is
pub table_in_parts : (d : Default) (a b : List ℕ) → table_closed (read (read (begun d false) a) b) ≡ table_read d (a ++ b)
unfolding table_read
table_in_parts d a b = ap table_closed (read_parts (begun d false) a b)

pub plan_in_parts : (d : Default) (a b : List ℕ) → plan_closed (read (read (begun d true) a) b) ≡ plan_read d (a ++ b)
unfolding plan_read
plan_in_parts d a b = ap plan_closed (read_parts (begun d true) a b)
