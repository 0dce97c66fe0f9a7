use Rattle.power_loss.proofs.area_reads.AreaStays.{behind_reads, call_reads, life_reads, opened_reads}
use Rattle.power_loss.proofs.area_reads.PagesRead.{pages_found}
use Rattle.power_loss.proofs.area_shown.a_request_reads_the_area_as_it_is.Goals as goal

pub returns-clause-opened : goal.returns-clause-opened
returns-clause-opened c = opened_reads

pub returns-clause-behind : goal.returns-clause-behind
returns-clause-behind c s call answer v h = behind_reads call answer v h

pub returns-clause-call : goal.returns-clause-call
returns-clause-call c s call answer v h = call_reads call answer v h

pub returns-clause-life : goal.returns-clause-life
returns-clause-life c = life_reads

pub returns-clause-pages : goal.returns-clause-pages
returns-clause-pages c = pages_found
