use Rattle.ufs_laws.proofs.jobs.BadBlocks.{last_number, one_more, spare}
use Rattle.ufs_laws.proofs.lock.the_lock_begins_past_the_spare_blocks.Goals as goal

pub returns-clause-spare : goal.returns-clause-spare
returns-clause-spare c = spare

pub returns-clause-one_more : goal.returns-clause-one_more
returns-clause-one_more c = one_more

pub returns-clause-last_number : goal.returns-clause-last_number
returns-clause-last_number c = last_number
