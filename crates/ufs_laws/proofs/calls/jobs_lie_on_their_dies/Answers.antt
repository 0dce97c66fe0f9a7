use Rattle.ufs_laws.proofs.jobs.JobsStay.{life_stays, opened_stays, stays}
use Rattle.ufs_laws.proofs.calls.jobs_lie_on_their_dies.Goals as goal

pub returns-clause-open : goal.returns-clause-open
returns-clause-open c = opened_stays

pub returns-clause-call : goal.returns-clause-call
returns-clause-call c = stays

pub returns-clause-life : goal.returns-clause-life
returns-clause-life c = life_stays
