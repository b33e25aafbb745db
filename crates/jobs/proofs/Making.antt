-- The check of a well made state, job by job and core by core, and what lies past the records.
use mathlib.Core.Path.{◌≡◌, refl, sym, ap, ◌∙◌}
use mathlib.Core.Bool.{Bool, true, false, not, ◌&&◌}
use mathlib.Core.List.{List}
use mathlib.Core.Logic.{◌⊎◌, inl, inr}
use Prim.Native.Nat.{ℕ, ◌+◌, ◌≤◌, ◌<◌, min}
use native.Mathlib.Decide.{dec_lt}
use native.Mathlib.Numerals.{add-one}
use native.Mathlib.Omega.{arith}
use lib.Dec.{leb, ltb, eqb}
use lib.ListN.{length, get_or, get_or-eq_default}
use borrow.Author.Tests.{lt-ltb, le-ltb}
use Rattle.tasks.specs.Below.{all, any}
use Rattle.tasks.specs.declared.Task.{Task}
use Rattle.tasks.specs.declared.TaskNo.{TaskNo}
use Rattle.tasks.proofs.Below.{all_each, all_make}
use Rattle.tasks.proofs.Bools.{clash, either, not_second, and_true}
use Rattle.plans.specs.Pieces.{no_piece, task_of, piece_of}
use Rattle.plans.specs.declared.Piece.{Piece}
use Rattle.plans.specs.declared.Plan.{Plan}
use Rattle.jobs.specs.Jobs.{no_job, no_run, once_released, names, Runner, Idle, Runs}
use Rattle.jobs.specs.declared.Job.{Job}
use Rattle.jobs.specs.declared.Phase.TheVariants.{Never, Active, Ended}
use Rattle.jobs.specs.WellMade.{piece_exists, at_no_piece, job_well_made, jobs_well_made, core_well_made, cores_well_made}

-- a count above a size reads as that size, where all past it pass
all_read : (size n : ℕ) (f : ℕ → Bool) → ((j : ℕ) → size ≤ j → f j ≡ true) → all (min n size) f ≡ all n f
all_read size n f h = go (either (all (min n size) f)) (either (all n f))
  where
    go : (all (min n size) f ≡ true) ⊎ (all (min n size) f ≡ false) → (all n f ≡ true) ⊎ (all n f ≡ false) → all (min n size) f ≡ all n f
    go (inl a) (inl b) = a ∙ sym b
    go (inr a) (inr b) = a ∙ sym b
    go (inr a) (inl b) = clash (all_make (min n size) f (λ j l. all_each n f b j (omega arith))) a
    go (inl a) (inr b) = clash (all_make n f (λ j l. past j l (dec_lt j size))) b
      where
        past : (j : ℕ) → j < n → Dec (j < size) → f j ≡ true
        past j l (yes k) = all_each (min n size) f a j (omega arith)
        past j l (no k) = h j (omega arith)

-- one more test
pub all_turn : (f : ℕ → Bool) (i : ℕ) (a b : Bool) → a ≡ all i f → b ≡ f i → a && b ≡ all (i + 1) f
unfolding all
all_turn f i a b e h = rw (e, h, add-one)

ltb_read : (t n size : ℕ) → t < size → ltb t n ≡ ltb t (min n size)
ltb_read t n size l = go (dec_lt t n)
  where
    go : Dec (t < n) → ltb t n ≡ ltb t (min n size)
    go (yes h) = lt-ltb t n h ∙ sym (lt-ltb t (min n size) (omega arith))
    go (no h) = le-ltb t n (omega arith) ∙ sym (le-ltb t (min n size) (omega arith))

module _ (p : Plan) (jobs : List Job) where
  job_past : length jobs ≡ 64 → (i : ℕ) → 64 ≤ i → get_or jobs i no_job ≡ no_job
  job_past e i l = get_or-eq_default jobs no_job (omega arith)

  pub jobs_read : length jobs ≡ 64 → all (min p.count 64) (λ i. job_well_made p i (get_or jobs i no_job)) ≡ jobs_well_made p jobs
  unfolding job_well_made
  jobs_read e = all_read 64 p.count (λ i. job_well_made p i (get_or jobs i no_job)) (λ i l. rw (job_past e i l))

  -- whether a task is one of the plan's and was once released, its job being read within the record
  released_read : (t : ℕ) → length jobs ≡ 64 → ltb t p.count && once_released (get_or jobs t no_job).phase ≡ ltb t (min p.count 64) && once_released (get_or jobs (min t 63) no_job).phase
  released_read t e = go (dec_lt t 64)
    where
      go : Dec (t < 64) → ltb t p.count && once_released (get_or jobs t no_job).phase ≡ ltb t (min p.count 64) && once_released (get_or jobs (min t 63) no_job).phase
      go (yes l) = let q : min t 63 ≡ t = omega arith in rw (q, ltb_read t p.count 64 l)
      go (no l) = rw (job_past e t (omega arith), le-ltb t (min p.count 64) (omega arith)) (not_second (ltb t p.count) refl)

  module _ (last : List Runner) where
    pub cores_read : length last ≡ 16 → all (min p.cores 16) (core_well_made p jobs last) ≡ cores_well_made p jobs last
    unfolding core_well_made
    cores_read e = all_read 16 p.cores (core_well_made p jobs last) past
      where
        past : (x : ℕ) → 16 ≤ x → core_well_made p jobs last x ≡ true
        past x l = let h : get_or last x no_run ≡ no_run = get_or-eq_default last no_run (omega arith) in rw h

    -- a core is as a well made state has it where nothing ran
    pub core_idle : (x : ℕ) → get_or last x no_run ≡ Idle → core_well_made p jobs last x ≡ true
    unfolding core_well_made
    core_idle x e = rw e

    -- and where a task did, told of what is read of its job
    pub core_says : (x count k : ℕ) (t : TaskNo) (once seen : Bool) → length jobs ≡ 64 → get_or last x no_run ≡ Runs t → count ≡ min p.count 64 → k ≡ min t.0 63 → once ≡ once_released (get_or jobs k no_job).phase → any x (λ y. names t.0 (get_or last y no_run)) ≡ seen → ltb t.0 count && once && not seen ≡ core_well_made p jobs last x
    unfolding core_well_made
    core_says x count k t once seen e r c h w s = rw (r, c, w, h, s) (ap (λ (z : Bool). z && not seen) (sym (released_read t.0 e)))

-- the piece that a job is at exists, told of the piece read within the record
pub exists_read : (p : Plan) (i : ℕ) (j : Job) (here : Piece) (placed : ℕ) → length p.pieces ≡ 128 → p.placed ≡ placed → piece_of p (min j.piece 127) ≡ here → ltb j.piece placed && ltb j.piece 128 && eqb here.task.0 i && ltb j.ran here.cost ≡ piece_exists p i j
exists_read p i j here placed e q h = rw (← q, ← h) (go (dec_lt j.piece 128))
  where
    go : Dec (j.piece < 128) → ltb j.piece p.placed && ltb j.piece 128 && eqb (piece_of p (min j.piece 127)).task.0 i && ltb j.ran (piece_of p (min j.piece 127)).cost ≡ piece_exists p i j
    go (yes l) = let m : min j.piece 127 ≡ j.piece = omega arith in rw (m, lt-ltb j.piece 128 l, and_true (ltb j.piece p.placed))
    go (no l) = let m : piece_of p j.piece ≡ no_piece = get_or-eq_default p.pieces no_piece (omega arith) in rw (m, le-ltb j.piece 128 (omega arith), not_second (ltb j.piece p.placed) {b = false} refl, le-ltb j.ran 0 (omega arith)) (sym (not_second (ltb j.piece p.placed && eqb 0 i) {b = false} refl))

-- a job is as a well made state has it, for each phase
module _ (p : Plan) (i : ℕ) (j : Job) where
  pub never_made : j.phase ≡ Never → eqb j.age 0 && at_no_piece j ≡ job_well_made p i j
  unfolding job_well_made
  never_made h = rw h

  pub active_made : (task : Task) (exists : Bool) → j.phase ≡ Active → task_of p i ≡ task → exists ≡ piece_exists p i j → (leb 1 j.age && leb j.age task.period) && exists ≡ job_well_made p i j
  unfolding job_well_made
  active_made task exists h t e = rw (h, ← t, e)

  pub ended_made : (task : Task) → j.phase ≡ Ended → task_of p i ≡ task → (leb 1 j.age && leb j.age task.period) && at_no_piece j ≡ job_well_made p i j
  unfolding job_well_made
  ended_made task h t = rw (h, ← t)
