use Rattle.ufs_laws.proofs.exchanges.DataInOrder as order
use Rattle.ufs_laws.proofs.refusals.ShortWrites as short
use Rattle.ufs_laws.proofs.short_writes.a_short_write_takes_whole_blocks.Goals as goal

pub returns-clause-begins : goal.returns-clause-begins
returns-clause-begins c = short.begins

pub returns-clause-none : goal.returns-clause-none
returns-clause-none c = short.none

pub returns-clause-whole : goal.returns-clause-whole
returns-clause-whole c = short.whole

pub returns-clause-asks : goal.returns-clause-asks
returns-clause-asks c = short.asks

pub returns-clause-accepted : goal.returns-clause-accepted
returns-clause-accepted c = order.accepted

pub returns-clause-left_over : goal.returns-clause-left_over
returns-clause-left_over c = short.left_over

pub returns-clause-nothing_left : goal.returns-clause-nothing_left
returns-clause-nothing_left c = short.nothing_left
