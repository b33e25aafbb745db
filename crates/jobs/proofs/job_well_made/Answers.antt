use Rattle.jobs.proofs.Making.{exists_read, never_made, active_made, ended_made}
use Rattle.jobs.proofs.job_well_made.Goals as goal

pub returns-in-Never : goal.returns-in-Never
returns-in-Never c = λ p l t q e. let a = c.args in never_made p a.i.0 a.job c.in-Never.is

pub returns-in-Active : goal.returns-in-Active
returns-in-Active c = λ p l t q e. let a = c.args in active_made p a.i.0 a.job a.task _ c.in-Active.is t (exists_read p a.i.0 a.job a.here a.placed l q e)

pub returns-in-Ended : goal.returns-in-Ended
returns-in-Ended c = λ p l t q e. let a = c.args in ended_made p a.i.0 a.job a.task c.in-Ended.is t
