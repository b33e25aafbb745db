-- The jobs of a well made state from rule to rule: within a tick a job may have age 0, and all else holds as in a well made state.
use mathlib.Core.Path.{◌≡◌, refl, sym, ◌∙◌}
use mathlib.Core.Bool.{Bool, true, false, not, ◌&&◌, cond}
use Prim.Native.Nat.{ℕ, suc, ◌+◌, ◌≤◌, ◌<◌, min, zero-le}
use native.Mathlib.Numerals.{add-one}
use native.Mathlib.Omega.{arith}
use lib.Dec.{leb, ltb, eqb}
use borrow.Author.Tests.{le-leb, ltb-true, lt-ltb, eqb-true, eq-eqb, not-false}
use Rattle.tasks.proofs.Bools.{clash, both, both_make}
use Rattle.plans.specs.Pieces.{task_of, piece_of}
use Rattle.plans.specs.Shape.{same_task, is_last}
use Rattle.plans.specs.declared.Plan.{Plan}
use Rattle.jobs.specs.Jobs.{by_phase, is_active, once_released}
use Rattle.dispatch.specs.Rules.{ended_job, finished_job, turns_late, marked_job, first_piece, released_job, ran_job, aged_job}
use Rattle.jobs.specs.Sets.{member}
use Rattle.jobs.specs.WellMade.{age_fits, piece_exists, at_no_piece, job_well_made}
use Rattle.jobs.specs.declared.Job.{Job}
use Rattle.jobs.specs.declared.Phase.{Phase}
use Rattle.jobs.specs.declared.Phase.TheVariants.{Never, Active, Ended}
use Rattle.jobs.specs.declared.Tasks.{Tasks}
use Rattle.dispatch.proofs.Checked.{Good}

-- as in a well made state, but for the least age of a job
abbrev pub sits : Plan → ℕ → Job → Bool
sits p i j =
    by_phase j.phase
    (eqb j.age 0 && at_no_piece j)
    (leb j.age (task_of p i).period && piece_exists p i j)
    (leb j.age (task_of p i).period && at_no_piece j)

abbrev job : Phase → Bool → ℕ → ℕ → ℕ → Job
job h l k a r = record { phase = h; late = l; piece = k; age = a; ran = r }

at_first : (l : Bool) (k r : ℕ) → eqb k 0 && eqb r 0 && not l ≡ true → k ≡ 0
at_first l k r h = eqb-true k 0 (both {a = eqb k 0} {b = eqb r 0} (both h).0).0

older_fits : (a d : ℕ) → 1 ≤ d → leb 1 (min (a + 1) d) && leb (min (a + 1) d) d ≡ true
older_fits a d o = both_make (le-leb 1 (min (a + 1) d) (omega arith)) (le-leb (min (a + 1) d) d (omega arith))

module _ (p : Plan) (i : ℕ) where
  pub made_sits : (h : Phase) (l : Bool) (k a r : ℕ) → job_well_made p i (job h l k a r) ≡ true → sits p i (job h l k a r) ≡ true
  unfolding job_well_made
  made_sits Never l k a r m = m
  made_sits Active l k a r m = let q : (age_fits p i (job Active l k a r) ≡ true) × _ = both m in both_make (both {a = leb 1 a} q.0).1 q.1
  made_sits Ended l k a r m = let q : (age_fits p i (job Ended l k a r) ≡ true) × _ = both m in both_make (both {a = leb 1 a} q.0).1 q.1

  -- 1
  pub finished_sits : (fs : Tasks) (h : Phase) (l : Bool) (k a r : ℕ) → sits p i (job h l k a r) ≡ true → sits p i (finished_job fs i (job h l k a r)) ≡ true
  finished_sits fs h l k a r m = go (member fs i) h m
    where
      go : (b : Bool) (h : Phase) → sits p i (job h l k a r) ≡ true → sits p i (cond (b && is_active h) (ended_job (job h l k a r)) (job h l k a r)) ≡ true
      go true Active m = both_make (both {a = leb a (task_of p i).period} m).0 refl
      go true Never m = m
      go true Ended m = m
      go false h m = m

  -- 2
  pub marked_sits : (h : Phase) (l : Bool) (k a r : ℕ) → sits p i (job h l k a r) ≡ true → sits p i (marked_job p i (job h l k a r)) ≡ true
  marked_sits Never l k a r m = m
  marked_sits Ended l k a r m = m
  marked_sits Active l k a r m = go (turns_late p i (job Active l k a r))
    where
      go : (b : Bool) → sits p i (cond b (job Active true k a r) (job Active l k a r)) ≡ true
      go true = m
      go false = m

  -- 3
  pub released_sits : Good p → i < p.count → (rs : Tasks) (j : Job) → sits p i j ≡ true → sits p i (released_job p rs i j) ≡ true
  unfolding first_piece
  released_sits g l rs j m = go (member rs i)
    where
      found : (first_piece p i < p.placed) × ((piece_of p (first_piece p i)).task.0 ≡ i)
      found = g.begins i l

      go : (b : Bool) → sits p i (cond b (job Active false (first_piece p i) 0 0) j) ≡ true
      go true = both_make (le-leb 0 (task_of p i).period zero-le) (both_make (both_make (lt-ltb (first_piece p i) p.placed found.0) (eq-eqb (piece_of p (first_piece p i)).task.0 i found.1)) (lt-ltb 0 (piece_of p (first_piece p i)).cost (g.fits (first_piece p i) found.0).cost))
      go false = m

  -- 4 and 5
  ran_sits : Good p → (l : Bool) (k a r : ℕ) → sits p i (job Active l k a r) ≡ true → sits p i (ran_job p (job Active l k a r)) ≡ true
  unfolding is_last
  ran_sits g l k a r m = go _ _ refl refl
    where
      young : leb a (task_of p i).period ≡ true
      young = (both {a = leb a (task_of p i).period} m).0

      own : (ltb k p.placed && eqb (piece_of p k).task.0 i ≡ true) × (ltb r (piece_of p k).cost ≡ true)
      own = both (both {a = leb a (task_of p i).period} m).1

      next : not (ltb (suc k) p.placed && same_task (piece_of p k) (piece_of p (suc k))) ≡ false → sits p i (job Active l (suc k) a 0) ≡ true
      next e =
          let q : (ltb (suc k) p.placed ≡ true) × (same_task (piece_of p k) (piece_of p (suc k)) ≡ true) = both (not-false _ e) in
          let t : (piece_of p k).task.0 ≡ i = eqb-true _ _ (both {a = ltb k p.placed} own.0).1 in
          both_make young (both_make (both_make q.0 (eq-eqb (piece_of p (suc k)).task.0 i (sym (eqb-true _ _ q.1) ∙ t))) (lt-ltb 0 (piece_of p (suc k)).cost (g.fits (suc k) (ltb-true _ _ q.0)).cost))

      go : (b d : Bool) → ltb (r + 1) (piece_of p k).cost ≡ b → not (ltb (suc k) p.placed && same_task (piece_of p k) (piece_of p (suc k))) ≡ d → sits p i (cond (ltb (r + 1) (piece_of p k).cost) (job Active l k a (r + 1)) (cond (not (ltb (suc k) p.placed && same_task (piece_of p k) (piece_of p (suc k)))) (ended_job (job Active l k a r)) (job Active l (k + 1) a 0))) ≡ true
      go true d u w = rw u (both_make young (both_make own.0 u))
      go false true u w = rw (u, w) (both_make young refl)
      go false false u w = rw (u, w, add-one) (next w)

  pub stepped_sits : Good p → (n : Bool) (h : Phase) (l : Bool) (k a r : ℕ) → sits p i (job h l k a r) ≡ true → sits p i (cond (is_active h && n) (ran_job p (job h l k a r)) (job h l k a r)) ≡ true
  stepped_sits g n Never l k a r m = m
  stepped_sits g n Ended l k a r m = m
  stepped_sits g true Active l k a r m = ran_sits g l k a r m
  stepped_sits g false Active l k a r m = m

  -- 6
  pub aged_made : 1 ≤ (task_of p i).period → (h : Phase) (l : Bool) (k a r : ℕ) → sits p i (job h l k a r) ≡ true → job_well_made p i (aged_job p i (job h l k a r)) ≡ true
  unfolding job_well_made
  aged_made o Never l k a r m = m
  aged_made o Active l k a r m = both_make (older_fits a (task_of p i).period o) (both {a = leb a (task_of p i).period} m).1
  aged_made o Ended l k a r m = both_make (older_fits a (task_of p i).period o) (both {a = leb a (task_of p i).period} m).1

  -- a job that sits is at a piece of the plan
  pub sits_placed : 1 ≤ p.placed → (h : Phase) (l : Bool) (k a r : ℕ) → sits p i (job h l k a r) ≡ true → k < p.placed
  sits_placed o Never l k a r m = omega (arith, at_first l k r (both {a = eqb a 0} m).1)
  sits_placed o Active l k a r m = ltb-true k p.placed (both {a = ltb k p.placed} (both {b = ltb r (piece_of p k).cost} (both {a = leb a (task_of p i).period} m).1).0).0
  sits_placed o Ended l k a r m = omega (arith, at_first l k r (both {a = leb a (task_of p i).period} m).1)

-- ---- phases
active_once : (h : Phase) → is_active h ≡ true → once_released h ≡ true
active_once Never e = clash e refl
active_once Active e = refl
active_once Ended e = refl

pub aged_phase : (p : Plan) (i : ℕ) (j : Job) → (aged_job p i j).phase ≡ j.phase
aged_phase p i j = go (once_released j.phase)
  where
    go : (b : Bool) → (cond b (job j.phase j.late j.piece (min (j.age + 1) (task_of p i).period) j.ran) j).phase ≡ j.phase
    go true = refl
    go false = refl

-- a job that runs or not has been released if it was active
pub stepped_once : (p : Plan) (n : Bool) (j : Job) → is_active j.phase ≡ true → once_released (cond n (ran_job p j) j).phase ≡ true
stepped_once p false j h = active_once j.phase h
stepped_once p true j h = go (ltb (j.ran + 1) (piece_of p j.piece).cost) (is_last (piece_of p) p.placed j.piece)
  where
    go : (b d : Bool) → once_released (cond b (job j.phase j.late j.piece j.age (j.ran + 1)) (cond d (ended_job j) (job j.phase j.late (j.piece + 1) j.age 0))).phase ≡ true
    go true d = active_once j.phase h
    go false true = refl
    go false false = active_once j.phase h
