-- Every example of document 01's table holds of the definitions.
use mathlib.Core.Path.{◌≡◌, refl}
use mathlib.Core.Bool.{true}
use Rattle.tasks.specs.Below.{all, any, first, sum, count, tabulate, padded}
use Rattle.tasks.specs.Tables.{checked_tasks}
use Rattle.plans.specs.Pieces.{costs}
use Rattle.plans.specs.Interference.{interference, periods}
use Rattle.plans.specs.Rank.{above}
use Rattle.bounds.specs.Bound.{local_deadline, load, bound}
use Rattle.plans.specs.Shape.{follows, in_order, is_last, piece_fits, shape, checked_plan}
use Rattle.planner.specs.Limit.{allowance, limit_of}
use Rattle.planner.specs.Whole.{put, takes_whole}
use Rattle.planner.specs.Shared.{give_share, close, share_from}
use Rattle.planner.specs.Layout.{start, place, lay_first, planned}
use Rattle.jobs.specs.Sets.{member}
use Rattle.jobs.specs.WellMade.{job_well_made, core_well_made}
use Rattle.dispatch.specs.States.{well_made}
use Rattle.dispatch.specs.Rules.{each_job, finish, mark_late, first_piece, release, highest, run, age, preempted, count_preempted}
use Rattle.dispatch.specs.Refusing.{lowest, judged_sets}
use Rattle.fullrate.specs.Allowed.{allowed_below}
use Rattle.dispatch.specs.Tick.{judged, tick}
use Rattle.dispatch.specs.Advance.{checked, next_state}
use Rattle.examples.specs.Example.{holds, all_hold}
use Rattle.examples.specs.Document.{document}

pub document_holds : all_hold document ≡ true
unfolding all_hold holds document allowed_below all any first sum count tabulate padded checked_tasks costs interference periods above local_deadline load bound follows in_order is_last piece_fits shape checked_plan allowance limit_of put takes_whole give_share close share_from start place lay_first planned member job_well_made core_well_made well_made each_job finish mark_late first_piece release highest run age preempted count_preempted lowest judged_sets checked judged next_state tick
document_holds = refl
