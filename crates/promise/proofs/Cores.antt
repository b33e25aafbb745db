-- For every plan and from any state: no answer names a task on two cores, and within a job the named core never falls.
use mathlib.Core.Path.{◌≡◌, refl, sym, ap, ◌∙◌}
use mathlib.Core.Bool.{Bool, true, false, ◌&&◌, cond}
use mathlib.Core.List.{List, [], ◌∷◌, ◌++◌}
use Prim.Native.Nat.{ℕ, suc, ◌+◌, ◌≤◌, ◌<◌, min}
use native.Mathlib.Decide.{dec_lt}
use native.Mathlib.Omega.{arith}
use lib.Dec.{ltb}
use lib.ListN.{get_or, replicate}
use Rattle.tasks.proofs.Bools.{clash}
use Rattle.tasks.proofs.Tabulate.{replicate_at}
use Rattle.plans.proofs.InShape.{GoodPlan, accepted_plan}
use Rattle.plans.specs.Pieces.{piece_of}
use Rattle.plans.specs.declared.Plan.{Plan}
use Rattle.jobs.specs.Jobs.{no_run, is_active, names, Runner}
use Rattle.dispatch.specs.States.{job_of, last_of}
use Rattle.dispatch.specs.Rules.{piece_at}
use Rattle.jobs.specs.Sets.{member}
use Rattle.jobs.specs.declared.Job.{Job}
use Rattle.jobs.specs.declared.Phase.{Phase}
use Rattle.jobs.specs.declared.Phase.TheVariants.{Never, Active, Ended}
use Rattle.dispatch.specs.declared.State.{State}
use Rattle.dispatch.proofs.Kept.{ready, next_last, next_past}
use Rattle.promise.specs.Demand3.{OneCore, CoresRise}
use Rattle.schedules.specs.Model.{Stage, never, active, ended, older, onward, finish, run}
use Rattle.promise.specs.Requests.{Request, asked, is_accepted, after, tally, named_on, releases}
use Rattle.promise.specs.View.{stage_of, model_of}
use Rattle.promise.proofs.Join.{stood, named_stands}
use Rattle.promise.proofs.Rules.{ready_stage, next_stage, rightly}
use Rattle.promise.proofs.Runs.{Passes, stepped, by_answer}
use Rattle.promise.proofs.Sound.{next_piece}

-- nothing is named in a refusal
refused_names : {A : Type 0} (i x : ℕ) → names i (get_or (replicate 16 no_run) x no_run) ≡ true → A
refused_names i x e = clash e (ap (λ (r : Runner). names i r) (replicate_at 16 x no_run))

module _ (p : Plan) (s : State) (q : Request) (ok : Passes p s q) where
  checked : GoodPlan p
  checked = accepted_plan p ok.plan

  -- the state from which the runners are chosen
  abbrev before : State
  before = ready p q.finished q.released s

  -- a task that an accepted tick names on a core is active at a piece there
  named_there : (i x : ℕ) → names i (last_of (stepped p s q) x) ≡ true → (i < p.count) × (is_active (job_of before i).phase ≡ true) × ((piece_at p before i).core.0 ≡ x)
  named_there i x e = go (dec_lt x p.cores)
    where
      go : Dec (x < p.cores) → (i < p.count) × (is_active (job_of before i).phase ≡ true) × ((piece_at p before i).core.0 ≡ x)
      go (yes l) = named_stands p checked before (stood p checked q.finished q.released s ok) x i (rw (next_last p (rightly p checked) q.finished q.released s x l) at e)
      go (no l) = clash e (ap (names i) (next_past p (rightly p checked) q.finished q.released s x (omega arith)))

pub one_core_lem : (p : Plan) → OneCore p
one_core_lem p s q i x y = by_answer p s q (λ t. names i (named_on t x) ≡ true → names i (named_on t y) ≡ true → x ≡ y)
    (λ ok a b. sym (named_there p s q ok i x a).2 ∙ (named_there p s q ok i y b).2)
    (λ r a b. refused_names i x a)

-- ---- an active job is at a piece of the plan on core x or a higher one
abbrev From : Plan → ℕ → Stage → Type 0
From p x never = Unit {0}
From p x (active a k r) = (k < p.placed) × (x ≤ (piece_of p k).core.0)
From p x (ended a) = Unit {0}

from_run : (p : Plan) → GoodPlan p → (x i : ℕ) (b : Bool) (o : Stage) → From p x o → From p x (run (model_of p) i b o)
unfolding run older onward
from_run p c x i b never h = tt
from_run p c x i b (ended a) h = tt
from_run p c x i false (active a k r) h = h
from_run p c x i true (active a k r) h = go (ltb (suc r) (piece_of p k).cost) _ refl
  where
    go : (part last : Bool) → (model_of p).last k ≡ last → From p x (onward (model_of p) part last (min (suc a) ((model_of p).period i)) k (suc r))
    go true z e = h
    go false true e = tt
    go false false e =
        let n : (suc k < p.placed) × ((piece_of p (suc k)).task.0 ≡ (piece_of p k).task.0) × ((piece_of p k).core.0 < (piece_of p (suc k)).core.0) = next_piece p c k h.0 e in
        (n.0, omega (arith, h.1, n.2))

from_finish : (p : Plan) (x : ℕ) (b : Bool) (o : Stage) → From p x o → From p x (cond b (finish o) o)
unfolding finish
from_finish p x false o h = h
from_finish p x true never h = tt
from_finish p x true (ended a) h = tt
from_finish p x true (active a k r) h = tt

-- a job that is named on core y and is at core x or a higher one
from_core : (p : Plan) (x y : ℕ) (j : Job) → is_active j.phase ≡ true → (piece_of p j.piece).core.0 ≡ y → From p x (stage_of j) → x ≤ y
from_core p x y j a e h = go j.phase refl
  where
    go : (z : Phase) → j.phase ≡ z → x ≤ y
    go Never q = clash a (rw q)
    go Ended q = clash a (rw q)
    go Active q = let u : (j.piece < p.placed) × (x ≤ (piece_of p j.piece).core.0) = rw q at h in omega (arith, u.1)

from_make : (p : Plan) (x : ℕ) (j : Job) → is_active j.phase ≡ true → j.piece < p.placed → (piece_of p j.piece).core.0 ≡ x → From p x (stage_of j)
from_make p x j a l e = go j.phase refl
  where
    go : (z : Phase) → j.phase ≡ z → From p x (stage_of j)
    go Never q = clash a (rw q)
    go Ended q = clash a (rw q)
    go Active q = rw q (l, omega arith)

module _ (p : Plan) (s : State) (q : Request) (ok : Passes p s q) (i : ℕ) (known : i < p.count) (x : ℕ) where
  from_ready : member q.released i ≡ false → From p x (stage_of (job_of s i)) → From p x (stage_of (job_of (before p s q ok) i))
  from_ready m h = rw (ready_stage p (checked p s q ok) q.finished q.released s i known, m) (from_finish p x (member q.finished i) (stage_of (job_of s i)) h)

  from_tick : From p x (stage_of (job_of (before p s q ok) i)) → From p x (stage_of (job_of (stepped p s q) i))
  from_tick h = rw (next_stage p (checked p s q ok) q.finished q.released s i known) (from_run p (checked p s q ok) x i _ _ h)

-- a count of 0 has counted nothing
nothing : (b : Bool) (k : ℕ) → cond b 1 0 + k ≡ 0 → (b ≡ false) × (k ≡ 0)
nothing true k h = absurd (omega arith)
nothing false k h = (refl, omega arith)

module _ (p : Plan) (i x y : ℕ) (known : i < p.count) where
  from_on : (between : List Request) (r : Request) (s : State) → From p x (stage_of (job_of s i)) → releases i p s (between ++ r ∷ []) ≡ 0 → names i (named_on (asked p (after p s between) r) y) ≡ true → x ≤ y
  unfolding after tally
  from_on [] r s h = by_answer p s r (λ t. cond (is_accepted t.answer && member r.released i) 1 0 + 0 ≡ 0 → names i (named_on t y) ≡ true → x ≤ y)
      (λ ok n e. let u : (i < p.count) × (is_active (job_of (before p s r ok) i).phase ≡ true) × ((piece_at p (before p s r ok) i).core.0 ≡ y) = named_there p s r ok i y e in
      from_core p x y (job_of (before p s r ok) i) u.1 u.2 (from_ready p s r ok i known x (nothing _ _ n).0 h))
      (λ z n e. refused_names i y e)
  from_on (q ∷ between) r s h = by_answer p s q (λ t. cond (is_accepted t.answer && member q.released i) 1 0 + releases i p t.state (between ++ r ∷ []) ≡ 0 → names i (named_on (asked p (after p t.state between) r) y) ≡ true → x ≤ y)
      (λ ok n. let u : (member q.released i ≡ false) × (releases i p (stepped p s q) (between ++ r ∷ []) ≡ 0) = nothing _ _ n in
      from_on between r (stepped p s q) (from_tick p s q ok i known x (from_ready p s q ok i known x u.0 h)) u.1)
      (λ z n. from_on between r s h (nothing false _ n).1)

pub cores_rise : (p : Plan) → CoresRise p
cores_rise p s q between r i x y = by_answer p s q (λ t. names i (named_on t x) ≡ true → releases i p t.state (between ++ r ∷ []) ≡ 0 → names i (named_on (asked p (after p t.state between) r) y) ≡ true → x ≤ y)
    (λ ok e. let u : (i < p.count) × (is_active (job_of (before p s q ok) i).phase ≡ true) × ((piece_at p (before p s q ok) i).core.0 ≡ x) = named_there p s q ok i x e in
    from_on p i x y u.0 between r (stepped p s q) (from_tick p s q ok i u.0 x (from_make p x (job_of (before p s q ok) i) u.1 (stood p (checked p s q ok) q.finished q.released s ok i u.0 u.1).known u.2)))
    (λ z e. refused_names i x e)
