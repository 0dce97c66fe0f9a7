use Rattle.ufs_laws.proofs.frame_laws.AreaPages as area
use Rattle.ufs_laws.proofs.requests.a_request_for_data_reads_its_pages.Goals as goal

pub returns-clause-reads : goal.returns-clause-reads
returns-clause-reads c = area.reads

pub returns-clause-waits : goal.returns-clause-waits
returns-clause-waits c = area.waits

pub returns-clause-due : goal.returns-clause-due
returns-clause-due c = area.good_due

pub returns-clause-lost : goal.returns-clause-lost
returns-clause-lost c = area.lost

pub returns-clause-read : goal.returns-clause-read
returns-clause-read c = area.read
