-- Document 01's examples marked P, its run of 20 ticks, and examples of our own where a wrong definition could pass the others.
use Rattle.std.specs.Prelude.{true, false, List, [], ◌∷◌, ℕ}
use Rattle.std.proofs.Math.Option.{Option, none, some}
use Rattle.tasks.specs.declared.Task.{Task}
use Rattle.examples.specs.Example.{timed, whole, share, Line, line, at, Example, interferes, allows, lays, refuses, judges, runs, ticks, stops}

-- (6,10,10) three times, and five times
abbrev three : List Task
three = timed 6 10 10 ∷ timed 6 10 10 ∷ timed 6 10 10 ∷ []

abbrev fourth : Task → List Task
fourth t = timed 6 10 10 ∷ timed 6 10 10 ∷ timed 6 10 10 ∷ t ∷ []

abbrev five : List Task
five = timed 6 10 10 ∷ timed 6 10 10 ∷ timed 6 10 10 ∷ timed 6 10 10 ∷ timed 6 10 10 ∷ []

abbrev listed : List Line → List Line
listed rest = line 0 0 whole 6 ∷ line 1 1 whole 6 ∷ line 2 0 share 4 ∷ line 2 1 share 2 ∷ rest

-- (6,10,20) alone, and (2,4,20) beside (3,9,20)
abbrev roomy : List Task
roomy = timed 6 10 20 ∷ []

abbrev pair : List Task
pair = timed 2 4 20 ∷ timed 3 9 20 ∷ []

-- rows of two and of three cores
abbrev two : ℕ → Option ℕ → List (Option ℕ)
two a b = some a ∷ b ∷ []

abbrev on3 : ℕ → ℕ → ℕ → List (Option ℕ)
on3 a b c = some a ∷ some b ∷ some c ∷ []

-- `2 1` four times, `0 2` twice, `0 1` twice, `0 -` twice
abbrev ten_rows : List (List (Option ℕ)) → List (List (Option ℕ))
ten_rows rest =
    two 2 (some 1) ∷ two 2 (some 1) ∷ two 2 (some 1) ∷ two 2 (some 1)
    ∷ two 0 (some 2) ∷ two 0 (some 2) ∷ two 0 (some 1) ∷ two 0 (some 1) ∷ two 0 none ∷ two 0 none ∷ rest

unfoldable pub document : List Example
document =
    -- P1
    interferes 4 10 3 3 ∷ interferes 4 10 12 6 ∷ interferes 4 10 14 8 ∷ interferes 4 10 20 8
    -- P2
    ∷ allows 4 10 10 4 ∷ allows 4 10 9 2 ∷ allows 5 10 9 2
    -- P3
    ∷ lays 2 three (listed [])
    -- P4 and P5
    ∷ lays 2 (fourth (timed 2 10 10)) (listed (line 3 1 whole 2 ∷ [])) ∷ refuses 2 (fourth (timed 3 10 10)) 7 3
    -- P6
    ∷ lays 3 five (line 0 0 whole 6 ∷ line 1 1 whole 6 ∷ line 2 2 whole 6 ∷ line 3 0 share 4 ∷ line 3 1 share 2 ∷ line 4 1 share 2 ∷ line 4 2 share 4 ∷ [])
    -- P7
    ∷ lays 1 (timed 2 5 5 ∷ timed 2 5 5 ∷ timed 1 6 6 ∷ []) (line 0 0 whole 2 ∷ line 1 0 whole 2 ∷ line 2 0 share 1 ∷ [])
    -- P8: core 1 runs task 4 in ticks 0 and 1, task 1 in 2 and 3, task 3 in 4 and 5, task 1 in 6 to 9
    ∷ runs 3 five (on3 3 4 2 ∷ on3 3 4 2 ∷ on3 3 1 4 ∷ on3 3 1 4 ∷ on3 0 3 4 ∷ on3 0 3 4 ∷ on3 0 1 2 ∷ on3 0 1 2 ∷ on3 0 1 2 ∷ on3 0 1 2 ∷ []) 0 4
    -- the run of 20 ticks of P3's plan, and its totals
    ∷ runs 2 three (ten_rows (ten_rows [])) 0 4
    -- 17 cores and 65 tasks: the core count is judged first
    ∷ judges 17 65 4 17 ∷ judges 16 65 6 65 ∷ judges 0 0 4 0
    -- the limit of a share is taken over the D that is left, not over d: core 1 would close too early
    ∷ lays 3 (timed 8 13 13 ∷ timed 4 10 10 ∷ timed 11 16 16 ∷ timed 7 10 13 ∷ timed 3 7 8 ∷ timed 1 10 10 ∷ [])
    (line 0 0 whole 8 ∷ line 1 1 whole 4 ∷ line 2 2 whole 11 ∷ line 3 0 share 5 ∷ line 3 1 share 2 ∷ line 4 1 share 2 ∷ line 4 2 share 1 ∷ line 5 2 whole 1 ∷ [])
    -- age = d and no mark is late, and a total rises up to 4,294,967,295 and stops there
    ∷ ticks 1 roomy (at 10 0 0 ∷ []) [] 0 0 (some 0 ∷ []) (true ∷ []) 1 0
    ∷ ticks 1 roomy (at 10 0 0 ∷ []) [] 4294967294 0 (some 0 ∷ []) (true ∷ []) 4294967295 0
    ∷ ticks 1 roomy (at 10 0 0 ∷ []) [] 4294967295 0 (some 0 ∷ []) (true ∷ []) 4294967295 0
    -- the same for preemptions: task 1 ran last, is active and is pushed aside by task 0, which has the shorter deadline
    ∷ ticks 1 pair (at 1 0 0 ∷ at 2 1 1 ∷ []) (some 1 ∷ []) 0 4294967294 (some 0 ∷ []) (false ∷ false ∷ []) 0 4294967295
    ∷ ticks 1 pair (at 1 0 0 ∷ at 2 1 1 ∷ []) (some 1 ∷ []) 0 4294967295 (some 0 ∷ []) (false ∷ false ∷ []) 0 4294967295
    -- a job of age above d without a mark is never marked
    ∷ ticks 1 roomy (at 11 0 0 ∷ []) [] 0 0 (some 0 ∷ []) (false ∷ []) 0 0
    -- a state is not well made if a task stands last on two cores, or if as many ticks ran as the piece costs
    ∷ stops 2 roomy (at 3 0 0 ∷ []) (some 0 ∷ some 0 ∷ []) 9
    ∷ ticks 1 roomy (at 7 0 5 ∷ []) [] 0 0 (some 0 ∷ []) (false ∷ []) 0 0
    ∷ stops 1 roomy (at 7 0 6 ∷ []) [] 9
    ∷ []
