use Rattle.ufs_spec.specs.declared.layer.Reader.TheVariants.{ForRest, ForStep, ForTask}
use Rattle.power_loss.proofs.kept_pages.ReadsAreOfPages.{another_ends, failed_ends, flying_home, flying_not_erased}
use Rattle.power_loss.proofs.kept_pages.ReadsAreOfPages.{flying_there, read_there, wanted_ends}
use Rattle.power_loss.proofs.kept.a_page_that_is_read_is_a_groups.Goals as goal

pub returns-clause-task : goal.returns-clause-task
returns-clause-task c t die tag index place v may = read_there die (ForTask tag index) place v may

pub returns-clause-rest : goal.returns-clause-rest
returns-clause-rest c t die number index place v may = read_there die (ForRest number index) place v may

pub returns-clause-step : goal.returns-clause-step
returns-clause-step c t die place v may = read_there die ForStep place v may

pub returns-clause-flying : goal.returns-clause-flying
returns-clause-flying c = flying_there

pub returns-clause-at_home : goal.returns-clause-at_home
returns-clause-at_home c = flying_home

pub returns-clause-not_erased : goal.returns-clause-not_erased
returns-clause-not_erased c = flying_not_erased

pub returns-clause-wanted : goal.returns-clause-wanted
returns-clause-wanted c = wanted_ends

pub returns-clause-another : goal.returns-clause-another
returns-clause-another c = another_ends

pub returns-clause-failed : goal.returns-clause-failed
returns-clause-failed c = failed_ends
