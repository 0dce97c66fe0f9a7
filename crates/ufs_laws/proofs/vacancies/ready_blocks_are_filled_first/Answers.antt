use Rattle.ufs_laws.proofs.free_blocks.ErasesInOrder.{before_untouched, each_erase}
use Rattle.ufs_laws.proofs.free_blocks.FreedVictims.{filled, ready}
use Rattle.ufs_laws.proofs.vacancies.ready_blocks_are_filled_first.Goals as goal

pub returns-clause-erased : goal.returns-clause-erased
returns-clause-erased c = ready

pub returns-clause-each_erase : goal.returns-clause-each_erase
returns-clause-each_erase c = each_erase

pub returns-clause-before_untouched : goal.returns-clause-before_untouched
returns-clause-before_untouched c = before_untouched

pub returns-clause-filled : goal.returns-clause-filled
returns-clause-filled c = filled
