use Rattle.ufs_laws.proofs.jobs.JobsInFlight.{ended_flight, ended_others, other_job, own_job, same_jobs}
use Rattle.ufs_laws.proofs.jobs.JobsOnTheirDies.{job_here}
use Rattle.ufs_laws.proofs.jobs.OneJob.{is_die, was_free}
use Rattle.ufs_laws.proofs.jobs.JobsStay.{ask_same, host_same, turn_same}
use Rattle.ufs_laws.proofs.calls.one_job_a_die.Goals as goal

pub returns-clause-free : goal.returns-clause-free
returns-clause-free c = was_free

pub returns-clause-there : goal.returns-clause-there
returns-clause-there c = is_die

pub returns-clause-here : goal.returns-clause-here
returns-clause-here c = job_here

pub returns-clause-own : goal.returns-clause-own
returns-clause-own c = own_job

pub returns-clause-others : goal.returns-clause-others
returns-clause-others c = other_job

pub returns-clause-none : goal.returns-clause-none
returns-clause-none c = same_jobs

pub returns-clause-ends : goal.returns-clause-ends
returns-clause-ends c = ended_flight

pub returns-clause-ends_alone : goal.returns-clause-ends_alone
returns-clause-ends_alone c = ended_others

pub returns-clause-host : goal.returns-clause-host
returns-clause-host c = host_same

pub returns-clause-step : goal.returns-clause-step
returns-clause-step c = turn_same

pub returns-clause-ask : goal.returns-clause-ask
returns-clause-ask c = ask_same
