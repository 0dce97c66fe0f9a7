use Rattle.power_loss.proofs.jobs_owed.OneDieForEachJob.{one_mark, one_page, one_read}
use Rattle.power_loss.proofs.owed_jobs.one_die_each.Goals as goal

pub returns-clause-page : goal.returns-clause-page
returns-clause-page c = one_page

pub returns-clause-mark : goal.returns-clause-mark
returns-clause-mark c = one_mark

pub returns-clause-read : goal.returns-clause-read
returns-clause-read c = one_read
