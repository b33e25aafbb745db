-- What we say no with: each refusal's number in document 01's table, and what it tells.
use Rattle.std.specs.Prelude.{◌≡◌, ℕ}
use Rattle.tasks.specs.Answers.{Answer, Refused}
use Rattle.tasks.specs.declared.Refusal.{Refusal}
use Rattle.tasks.specs.declared.Refusal.TheVariants as no

pub data Told : Type 0 where
  place : ℕ → Told
  task : ℕ → Told
  given : ℕ → Told
  needed : ℕ → Told
  nothing : Told

abbrev pub number : Refusal → ℕ
number (no.CutShort p) = 1
number (no.WrongTag p) = 2
number (no.WrongLength p) = 3
number (no.CoresAt p) = 4
number (no.CoresGiven m) = 4
number (no.ValuesAt p) = 5
number (no.ValuesOf i) = 5
number (no.TasksAt p) = 6
number (no.TasksGiven n) = 6
number (no.NotPlaced i) = 7
number no.NoPlanShape = 8
number no.NotWellMade = 9
number (no.NotRun i) = 10
number (no.TooSoon i) = 11
number (no.StillActive i) = 12
number (no.BufferShort n) = 13

abbrev pub tells : Refusal → Told
tells (no.CutShort p) = place p.0
tells (no.WrongTag p) = place p.0
tells (no.WrongLength p) = place p.0
tells (no.CoresAt p) = place p.0
tells (no.CoresGiven m) = given m
tells (no.ValuesAt p) = place p.0
tells (no.ValuesOf i) = task i.0
tells (no.TasksAt p) = place p.0
tells (no.TasksGiven n) = given n
tells (no.NotPlaced i) = task i.0
tells no.NoPlanShape = nothing
tells no.NotWellMade = nothing
tells (no.NotRun i) = task i.0
tells (no.TooSoon i) = task i.0
tells (no.StillActive i) = task i.0
tells (no.BufferShort n) = needed n

-- the answer is the refusal with this number, and tells this
pub record Refuses (a : Answer) (n : ℕ) (told : Told) : Type 0 where
  pub refusal : Refusal
  pub answer : a ≡ Refused refusal
  pub numbered : number refusal ≡ n
  pub telling : tells refusal ≡ told
