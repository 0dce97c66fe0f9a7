use Rattle.ufs_laws.proofs.Common.{spot_of}
use Rattle.ufs_laws.proofs.jobs.BadBlocks.{bad_again, one_bad_more}
use Rattle.ufs_laws.proofs.lock.a_bad_block_counts_once.Goals as goal

pub returns-clause-program : goal.returns-clause-program
returns-clause-program c = λ t p left die block good. one_bad_more t.numbers t.disk.blocks (spot_of p) die block good

pub returns-clause-erase : goal.returns-clause-erase
returns-clause-erase c = λ t s left die block good. one_bad_more t.numbers t.disk.blocks s die block good

pub returns-clause-program_again : goal.returns-clause-program_again
returns-clause-program_again c = λ t p left bad. bad_again t.numbers t.disk.blocks (spot_of p) bad

pub returns-clause-erase_again : goal.returns-clause-erase_again
returns-clause-erase_again c = λ t s left bad. bad_again t.numbers t.disk.blocks s bad
