-- The walk that finds the highest ranked job on each core, one job a turn.
use mathlib.Core.Path.{◌≡◌, refl, sym, ap, ◌∙◌}
use mathlib.Core.Bool.{Bool, true, false, not, ◌&&◌, ◌||◌, cond}
use mathlib.Core.List.{List}
use Prim.Native.Nat.{ℕ, suc, ◌+◌, ◌<◌}
use native.Mathlib.Numerals.{add-one}
use native.Mathlib.Omega.{arith}
use lib.Dec.{ltb}
use lib.ListN.{get_or, set, replicate}
use borrow.Author.Tests.{ltb-true, lt-ltb, eqb-true, eq-eqb, ne_eqb, not-false, not-true}
use Rattle.tasks.proofs.Bools.{both, not_second, not_twice}
use Rattle.tasks.proofs.Tabulate.{tabulate_start, tabulate_turn}
use Rattle.tasks.specs.Below.{padded}
use Rattle.tasks.specs.Tables.{task_no}
use Rattle.tasks.specs.declared.TaskNo.{TaskNo}
use Rattle.plans.specs.Pieces.{task_of, piece_of}
use Rattle.plans.specs.Rank.{outranks, above}
use Rattle.plans.specs.Shape.{is_last}
use Rattle.plans.specs.declared.Piece.{Piece}
use Rattle.plans.specs.declared.Plan.{Plan}
use Rattle.dispatch.proofs.Highest.{runner_stands}
use Rattle.dispatch.proofs.Walks.{padded_has}
use Rattle.dispatch.specs.Choice.{no_stand, stand_of, StandsOf, found}
use Rattle.std.specs.Option.{is_some}
use Rattle.jobs.specs.Jobs.{no_run, by_runner, is_active, names, Runner, Idle, Runs}
use Rattle.dispatch.specs.States.{job_of}
use Rattle.dispatch.specs.Rules.{piece_at, stands_on, beats, highest, chosen, runs_now, ran_job}
use Rattle.dispatch.specs.Sound.{Sound}
use Rattle.jobs.specs.declared.Job.{Job}
use Rattle.dispatch.specs.declared.Stand.{Stand}
use Rattle.dispatch.specs.declared.State.{State}

and_true : (a b : Bool) → a && b ≡ (a && true) && b
and_true true b = refl
and_true false b = refl

-- does nothing run?
abbrev is_idle : Runner → Bool
is_idle r = by_runner r true (λ t. false)

idle_read : (r : Runner) (b : Bool) → is_some r ≡ not b → b ≡ is_idle r
idle_read Idle b h = sym (not_twice b) ∙ ap not (sym h)
idle_read (Runs t) b h = sym (not_twice b) ∙ ap not (sym h)

module _ (p : Plan) (s : State) where
  -- does task k's job win the core of its piece from the one found there?
  wins_core : (k : ℕ) (r : Runner) (held : Stand) → highest p s (piece_at p s k).core.0 k ≡ r → ((t : TaskNo) → r ≡ Runs t → held ≡ stand_of p s t.0) → is_active (job_of s k).phase && (is_idle r || outranks (stand_of p s k).piece.kind (stand_of p s k).deadline (stand_of p s k).piece.task.0 held.piece.kind held.deadline held.piece.task.0) ≡ stands_on p s (piece_at p s k).core.0 k && beats p s k (highest p s (piece_at p s k).core.0 k)
  unfolding above
  wins_core k Idle held e h = rw (e, eq-eqb (piece_at p s k).core.0 (piece_at p s k).core.0 refl) (and_true (is_active (job_of s k).phase) true)
  wins_core k (Runs t) held e h = let there : (piece_at p s t.0).core.0 ≡ (piece_at p s k).core.0 = eqb-true _ _ (both {a = is_active (job_of s t.0).phase} (runner_stands p s (piece_at p s k).core.0 k t e).1).1 in rw (e, h t refl, there, eq-eqb (piece_at p s k).core.0 (piece_at p s k).core.0 refl) (and_true (is_active (job_of s k).phase) _)

  -- then it is the best of the first k + 1 there, and otherwise the one found stays
  pub better_turn : (k : ℕ) (best : Runner) (held st : Stand) (none over wins : Bool) → st ≡ stand_of p s k → best ≡ found p s k st.piece.core.0 → ((t : TaskNo) → best ≡ Runs t → held ≡ stand_of p s t.0) → is_some best ≡ not none → over ≡ outranks st.piece.kind st.deadline st.piece.task.0 held.piece.kind held.deadline held.piece.task.0 → st.active && (none || over) ≡ wins → cond wins (Runs (task_no k)) best ≡ found p s (k + 1) st.piece.core.0
  unfolding highest
  better_turn k best held st none over wins q f h o w t =
      let g : best ≡ highest p s (piece_at p s k).core.0 k = ap (λ (c : Runner). c) f ∙ ap (λ (z : Stand). highest p s z.piece.core.0 k) q in
      let made : cond wins (Runs (task_no k)) best ≡ found p s (suc k) (piece_at p s k).core.0 = rw (← t, idle_read best none o, w, q, wins_core k best held (sym g) h) (go (stands_on p s (piece_at p s k).core.0 k && beats p s k (highest p s (piece_at p s k).core.0 k)) g) in
      rw add-one (made ∙ ap (λ (z : Stand). found p s (suc k) z.piece.core.0) (sym q))
    where
      go : (b : Bool) → best ≡ highest p s (piece_at p s k).core.0 k → cond b (Runs (task_no k)) best ≡ cond b (Runs (task_no k)) (highest p s (piece_at p s k).core.0 k)
      go true g = refl
      go false g = ap (λ (r : Runner). r) g

  -- on every other core the best stays
  other_core : (k y : ℕ) → (y ≡ (piece_at p s k).core.0 → ⊥) → found p s k y ≡ found p s (suc k) y
  unfolding highest
  other_core k y d = rw (ne_eqb (piece_at p s k).core.0 y (λ e. d (sym e)), not_second (is_active (job_of s k).phase) {b = false} refl)

  -- nothing is found before the first task
  pub found_start : replicate 16 no_run ≡ padded 16 p.cores no_run (found p s 0)
  unfolding padded highest
  found_start = tabulate_start 16 no_run _ (λ y l. go (ltb y p.cores))
    where
      go : (b : Bool) → no_run ≡ cond b no_run no_run
      go true = refl
      go false = refl

  -- one job more is one store, on its core
  found_turn : (xs : List Runner) (k x : ℕ) (r : Runner) → x < p.cores → x < 16 → x ≡ (piece_at p s k).core.0 → xs ≡ padded 16 p.cores no_run (found p s k) → r ≡ found p s (k + 1) x → set xs x r ≡ padded 16 p.cores no_run (found p s (k + 1))
  unfolding padded
  found_turn xs k x r l b q e h = tabulate_turn 16 (λ y. cond (ltb y p.cores) (found p s k y) no_run) (λ y. cond (ltb y p.cores) (found p s (k + 1) y) no_run) xs x r e b (h ∙ rw (lt-ltb x p.cores l)) (λ y d. ap (λ (z : Runner). cond (ltb y p.cores) z no_run) (rw add-one (other_core k y (λ g. d (g ∙ sym q)))))

-- what is read of a job says where it stands
pub stand_made : (p : Plan) (s : State) (i t : ℕ) (active more : Bool) → t ≡ (piece_at p s i).task.0 → active ≡ is_active (job_of s i).phase → more ≡ not (is_last (piece_of p) p.placed (job_of s i).piece) → record { active = active; more = more; piece = piece_at p s i; deadline = (task_of p t).deadline } ≡ stand_of p s i
stand_made p s i t active more h a l = rw (a, l, h)

-- what is read of a job and of its core says whether it runs, and makes of it what rules 4 and 5 do
pub ran_turn : (p : Plan) (s : State) (i : ℕ) (j : Job) (st : Stand) (core : Runner) (runs : Bool) (r : Job) → j ≡ job_of s i → st ≡ stand_of p s i → core ≡ chosen p s st.piece.core.0 → runs ≡ names i core
    → (piece_of p j.piece ≡ st.piece → is_last (piece_of p) p.placed j.piece ≡ not st.more → r ≡ cond (st.active && runs) (ran_job p j) j) → r ≡ cond (runs_now p s i) (ran_job p j) j
ran_turn p s i j st core runs r e q h w f = f (rw (e, q)) (rw (e, q) (sym (not_twice _))) ∙ rw (w, h, q)

-- a piece that is not its task's last has one after it
not_last : (pc : ℕ → Piece) (n j : ℕ) → is_last pc n j ≡ false → suc j < n
unfolding is_last
not_last pc n j h = ltb-true (suc j) n (both {a = ltb (suc j) n} (not-false _ h)).0

-- what the list of stands tells of a job
module _ (p : Plan) (s : State) (sound : Sound p) (xs : List Stand) (e : StandsOf p s xs) (i : ℕ) (l : i < p.count) where
  pub stand_is : get_or xs i no_stand ≡ stand_of p s i
  stand_is = padded_has 64 no_stand p.count (stand_of p s) xs i e.list l (omega (arith, sound.count))

  -- its core is one of the plan's
  pub stand_core : (get_or xs i no_stand).piece.core.0 < p.cores
  stand_core = rw stand_is (sound.places (job_of s i).piece (e.pieces i l))

  -- where its task has one after it, there is a place for that
  pub stand_next : (get_or xs i no_stand).more ≡ true → (job_of s i).piece < 255
  stand_next h = let g : not (is_last (piece_of p) p.placed (job_of s i).piece) ≡ true = rw stand_is at h in omega (arith, not_last (piece_of p) p.placed (job_of s i).piece (not-true _ g), sound.placed)

-- one turn of the walk over the stands, x being the core of the job looked at
module _ (p : Plan) (s : State) (sound : Sound p) (sts : List Stand) (e : StandsOf p s sts) (k : ℕ) (l : k < p.count) (xs : List Runner) (h : xs ≡ padded 16 p.cores no_run (found p s k)) (x : ℕ) (at_core : x ≡ (get_or sts k no_stand).piece.core.0) where
  pub core_in_lem : x < p.cores
  core_in_lem = rw at_core (stand_core p s sound sts e k l)

  found_read : get_or xs x no_run ≡ found p s k x
  found_read = padded_has 16 no_run p.cores (found p s k) xs x h core_in_lem (omega (arith, core_in_lem, sound.cores))

  -- the job found so far on the core is an earlier task's
  pub held_below : (t : TaskNo) → get_or xs x no_run ≡ Runs t → t.0 < k
  held_below t w = (runner_stands p s x k t (sym found_read ∙ w)).0

  -- so it stands where the list says
  held_is : (held : Stand) → ((t : TaskNo) → get_or xs x no_run ≡ Runs t → held ≡ get_or sts t.0 no_stand) → (t : TaskNo) → get_or xs x no_run ≡ Runs t → held ≡ stand_of p s t.0
  held_is held q t w = q t w ∙ stand_is p s sound sts e t.0 (omega (arith, held_below t w))

  pub choose_turn : (held : Stand) (r : Runner) → ((t : TaskNo) → get_or xs x no_run ≡ Runs t → held ≡ get_or sts t.0 no_stand) → (get_or sts k no_stand ≡ stand_of p s k → get_or xs x no_run ≡ found p s k (get_or sts k no_stand).piece.core.0 → ((t : TaskNo) → get_or xs x no_run ≡ Runs t → held ≡ stand_of p s t.0) → r ≡ found p s (k + 1) (get_or sts k no_stand).piece.core.0) → set xs x r ≡ padded 16 p.cores no_run (found p s (k + 1))
  choose_turn held r q f =
      found_turn p s xs k x r core_in_lem (omega (arith, core_in_lem, sound.cores)) (at_core ∙ ap (λ (z : Stand). z.piece.core.0) (stand_is p s sound sts e k l)) h
      (f (stand_is p s sound sts e k l) (found_read ∙ ap (found p s k) at_core) (held_is held q) ∙ ap (found p s (k + 1)) (sym at_core))
