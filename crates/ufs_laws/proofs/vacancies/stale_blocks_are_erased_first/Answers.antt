use Rattle.ufs_laws.proofs.free_blocks.FirstVacancies.{first_jobs}
use Rattle.ufs_laws.proofs.free_blocks.StaleBlocks.{job, no_step, some_job}
use Rattle.ufs_laws.proofs.vacancies.stale_blocks_are_erased_first.Goals as goal

pub returns-clause-no_step : goal.returns-clause-no_step
returns-clause-no_step c = no_step

pub returns-clause-job : goal.returns-clause-job
returns-clause-job c = λ t die s flight h none may. job t die s h flight none may

pub returns-clause-some_job : goal.returns-clause-some_job
returns-clause-some_job c = some_job

pub returns-clause-first_jobs : goal.returns-clause-first_jobs
returns-clause-first_jobs c = first_jobs
