use Rattle.ufs_laws.proofs.jobs.OneJob.{not_both, one_job}
use Rattle.ufs_laws.proofs.answers.RightAnswers.{one_end, one_heard, one_step}
use Rattle.ufs_laws.proofs.calls.one_answer.Goals as goal

pub returns-clause-host : goal.returns-clause-host
returns-clause-host c = one_heard

pub returns-clause-finish : goal.returns-clause-finish
returns-clause-finish c = one_end

pub returns-clause-step : goal.returns-clause-step
returns-clause-step c = one_step

pub returns-clause-job : goal.returns-clause-job
returns-clause-job c = λ s die f g none h k. one_job s.translation die f g none h k

pub returns-clause-job_or_none : goal.returns-clause-job_or_none
returns-clause-job_or_none c = λ s die flight h k. not_both s.translation die flight h k

pub returns-clause-reply_or_none : goal.returns-clause-reply_or_none
returns-clause-reply_or_none c = λ s m none due. none m due
