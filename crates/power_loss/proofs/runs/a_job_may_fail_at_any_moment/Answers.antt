use Rattle.power_loss.proofs.jobs.LawfulFailures.{failure_lawful, job_fails, read_fails}
use Rattle.power_loss.proofs.runs.a_job_may_fail_at_any_moment.Goals as goal

pub returns-clause-each : goal.returns-clause-each
returns-clause-each c = job_fails

pub returns-clause-no_other : goal.returns-clause-no_other
returns-clause-no_other c = failure_lawful

pub returns-clause-read : goal.returns-clause-read
returns-clause-read c = read_fails
