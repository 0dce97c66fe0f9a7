use Rattle.power_loss.proofs.jobs_owed.CopiesAfterTheirRead.{begun, brought, its_page}
use Rattle.power_loss.proofs.jobs_owed.OneDieForEachJob.{given}
use Rattle.power_loss.proofs.owed_jobs.a_copy_is_programmed_after_its_read.Goals as goal

pub returns-clause-begun : goal.returns-clause-begun
returns-clause-begun c = begun

pub returns-clause-brought : goal.returns-clause-brought
returns-clause-brought c = brought

pub returns-clause-its_page : goal.returns-clause-its_page
returns-clause-its_page c = its_page

pub returns-clause-given : goal.returns-clause-given
returns-clause-given c = given
