-- How long the lines of ticks can be, and that what is made of them is printed whole.
use mathlib.Core.Path.{◌≡◌}
use mathlib.Core.List.{List, ◌++◌}
use Prim.Native.Nat.{ℕ, zero, suc, ◌+◌, ◌*◌, ◌≤◌, ◌<◌}
use native.Mathlib.Numerals.{add-one}
use native.Mathlib.Omega.{arith}
use lib.ListN.{length, get_or, take, length-append}
use Rattle.plans.specs.Pieces.{task_of}
use Rattle.plans.specs.declared.Plan.{Plan}
use Rattle.jobs.specs.Jobs.{no_run, Runner, Idle, Runs}
use Rattle.std.specs.Prelude.{Result}
use Rattle.tasks.specs.declared.Refusal.{Refusal}
use Rattle.dispatch.specs.declared.State.{State}
use Rattle.dispatch.specs.declared.Ticked.{Ticked}
use Rattle.fullrate.specs.FullRate.{full_tick, state_after}
use Rattle.fullrate.specs.declared.Watched.{Watched}
use Rattle.texts.specs.Puts.{Puts}
use Rattle.texts.specs.declared.Text.{Text}
use mathlib.Core.Bool.{Bool, false}
use lib.Dec.{ltb}
use Rattle.texts.specs.Text.{put_end, put_in, ascii}
use Rattle.texts.proofs.Putting.{Put, has_room, put_first, put_nothing, digits_few, row_few, rows_few, put_whole}
use Rattle.texts.proofs.Telling.{answer_few}
use Rattle.ticklines.specs.Lines.{runner_text, gap_text, runs_text, ran_most, ticked_text, totals_text, totals_most}
use Rattle.ticklines.specs.Running.{run_text, runner_program_text, runner_most}
use Rattle.ticklines.specs.Responses.{response_text, response_most, watched_text, watched_most}

pub runner_few : (r : Runner) → length (runner_text r) ≤ 20
unfolding ascii
runner_few Idle = omega arith
runner_few (Runs t) = digits_few 20 t.0

pub gap_few : (x : ℕ) → length (gap_text x) ≤ 1
unfolding ascii
gap_few zero = omega arith
gap_few (suc x) = omega arith

-- a space stands before every core but core 0
pub some_gap : {t u : Text} (x : ℕ) → 0 < x → Puts 1 (ascii " ") t u → Puts 1 (gap_text x) t u
some_gap zero some h = absurd (omega arith)
some_gap (suc x) some h = h

-- and before it nothing
pub no_gap : (x : ℕ) (t : Text) → x ≤ 0 → Puts 1 (gap_text x) t t
no_gap zero t h = put_nothing 1 t
no_gap (suc x) t h = absurd (omega arith)

runs_few : (m : ℕ) (runs : List Runner) → length (runs_text m runs) ≤ ran_most
unfolding runs_text ascii
runs_few m runs = simp length-append (omega (arith, rows_few m 16 21 (λ x. gap_text x ++ runner_text (get_or runs x no_run)) (λ x. simp length-append (omega (arith, gap_few x, runner_few (get_or runs x no_run))))))

pub ticked_few : (m : ℕ) (t : Ticked) → length (ticked_text m t) ≤ ran_most
ticked_few m t = answer_few t.answer _ ran_most (omega arith) (λ _. runs_few m t.runs)

pub totals_few : (s : State) → length (totals_text s) ≤ totals_most
unfolding totals_text ascii
totals_few s = simp length-append (omega (arith, digits_few 20 s.late, digits_few 20 s.preemptions))

-- where a watched run has room, so have its totals
pub totals_put : {t u : Text} (s : State) {b : Bool} → b ≡ ltb (length t.bytes.now) (t.end + watched_most) → b ≡ false → Puts totals_most (totals_text s) t u → Put t totals_most (totals_text s) u
totals_put {t} s e h p = let room : t.end + watched_most ≤ length t.bytes.now = has_room e h in put_first totals_most (totals_text s) (totals_few s) (omega arith) p

-- the state after one more tick at full rate
pub next_state_lem : (p : Plan) (n : ℕ) (t : Ticked) → t ≡ full_tick p (state_after p n) → t.state ≡ state_after p (n + 1)
unfolding state_after
next_state_lem p n t e = rw (e, add-one)

run_few : (p : Plan) (n : ℕ) → length (run_text p n) ≤ n * ran_most + totals_most
unfolding run_text
run_few p n = simp length-append (omega (arith, row_few n ran_most (λ k. ticked_text p.cores (full_tick p (state_after p k))) (λ k. ticked_few p.cores (full_tick p (state_after p k))), totals_few (state_after p n)))

runner_text_few : (r : Result Plan Refusal) → length (runner_program_text r) ≤ runner_most
runner_text_few r = answer_few r _ runner_most (omega arith) (λ p. omega (arith, run_few p 20))

pub response_few : (i seen d : ℕ) → length (response_text i seen d) ≤ response_most
unfolding response_text ascii
response_few i seen d = simp length-append (omega (arith, digits_few 20 i, digits_few 20 seen, digits_few 20 d))

watched_few : (p : Plan) (w : Watched) → length (watched_text p w) ≤ watched_most
unfolding watched_text
watched_few p w = simp length-append (omega (arith, totals_few w.state, rows_few p.count 64 86 (λ i. response_text i (get_or w.longest i 0) (task_of p i).deadline) (λ i. response_few i (get_or w.longest i 0) (task_of p i).deadline)))

-- ---- what stands in the lent bytes, up to the end that is answered, is the whole text

pub totals_whole : (s : State) (lent : List ℕ) → totals_most ≤ length lent → take (put_end totals_most 0 lent (totals_text s)) (put_in totals_most 0 lent (totals_text s)) ≡ totals_text s
totals_whole s lent h = put_whole totals_most lent (totals_text s) (totals_few s) h

pub ticked_whole : (m : ℕ) (t : Ticked) (lent : List ℕ) → ran_most ≤ length lent → take (put_end ran_most 0 lent (ticked_text m t)) (put_in ran_most 0 lent (ticked_text m t)) ≡ ticked_text m t
ticked_whole m t lent h = put_whole ran_most lent (ticked_text m t) (ticked_few m t) h

pub runner_whole : (r : Result Plan Refusal) (lent : List ℕ) → runner_most ≤ length lent → take (put_end runner_most 0 lent (runner_program_text r)) (put_in runner_most 0 lent (runner_program_text r)) ≡ runner_program_text r
runner_whole r lent h = put_whole runner_most lent (runner_program_text r) (runner_text_few r) h

pub watched_whole : (p : Plan) (w : Watched) (lent : List ℕ) → watched_most ≤ length lent → take (put_end watched_most 0 lent (watched_text p w)) (put_in watched_most 0 lent (watched_text p w)) ≡ watched_text p w
watched_whole p w lent h = put_whole watched_most lent (watched_text p w) (watched_few p w) h
