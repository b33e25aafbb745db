-- The certificate theorem: over any rank that is a strict order, and any certified limit for each last piece.
use mathlib.Core.Path.{◌≡◌}
use mathlib.Core.Bool.{true}
use mathlib.Core.List.{List}
use Prim.Native.Nat.{ℕ, ◌+◌, ◌<◌}
use Rattle.tasks.specs.Answers.{Accepted}
use Rattle.plans.proofs.InShape.{accepted_plan}
use Rattle.plans.specs.Pieces.{piece_of, earlier}
use Rattle.plans.specs.Shape.{is_last, checked_plan}
use Rattle.plans.specs.declared.Plan.{Plan}
use Rattle.dispatch.specs.States.{job_of}
use Rattle.schedules.specs.Certificate.{Certificate}
use Rattle.schedules.specs.Model.{Model, Sound, active}
use Rattle.schedules.specs.Moments.{Moment, Reached}
use Rattle.promise.specs.Requests.{Request, reached}
use Rattle.promise.specs.View.{stage_of, moment_of, model_of}
use Rattle.promise.proofs.Runs.{reach}
use Rattle.schedules.proofs.Safe.{in_time_last}
use Rattle.promise.proofs.Sound.{sound}

-- in every moment that accepted ticks lead to, a job at its last piece is younger than its earlier costs and its limit
pub younger : (M : Model) → Sound M → (limit : ℕ → ℕ) → Certificate M limit → (s : Moment) → Reached M s → (q : ℕ) → q < M.pieces → M.last q ≡ true → (a r : ℕ) → s.stage (M.task q) ≡ active a q r → a < M.off q + limit q
younger = in_time_last

-- so it is in every state that requests lead to from the fresh one, for an accepted plan
pub younger_job : (p : Plan) → checked_plan p ≡ Accepted → (limit : ℕ → ℕ) → Certificate (model_of p) limit → (qs : List Request) (q : ℕ) → q < p.placed → is_last (piece_of p) p.placed q ≡ true → (a r : ℕ) → stage_of (job_of (reached p qs) (piece_of p q).task.0) ≡ active a q r → a < earlier (piece_of p) q + limit q
younger_job p good limit C qs = younger (model_of p) (sound p (accepted_plan p good)) limit C (moment_of p (reached p qs)) (reach p (accepted_plan p good) qs)
