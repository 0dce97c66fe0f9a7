use Rattle.ufs_laws.proofs.jobs.JobsInFlight.{given_flights, jobs_behind, same_flights}
use Rattle.ufs_laws.proofs.exchanges.RequestsSettled as settled
use Rattle.ufs_laws.proofs.calls.no_request_fills_nothing.Goals as goal

pub returns-clause-nothing : goal.returns-clause-nothing
returns-clause-nothing c = settled.no_request_fills_nothing

pub returns-clause-given : goal.returns-clause-given
returns-clause-given c = given_flights

pub returns-clause-not_given : goal.returns-clause-not_given
returns-clause-not_given c = same_flights

pub returns-clause-ended : goal.returns-clause-ended
returns-clause-ended c = jobs_behind
