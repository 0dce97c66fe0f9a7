use Rattle.ufs_laws.proofs.frame_laws.Compares as compare
use Rattle.ufs_laws.proofs.frame_laws.Verifies as verify
use Rattle.ufs_laws.proofs.verifies.a_verify_asks_for_blocks.Goals as goal

pub returns-clause-begins : goal.returns-clause-begins
returns-clause-begins c = verify.compares

pub returns-clause-asks : goal.returns-clause-asks
returns-clause-asks c = compare.asks

pub returns-clause-waits : goal.returns-clause-waits
returns-clause-waits c = compare.waits

pub returns-clause-was_asked : goal.returns-clause-was_asked
returns-clause-was_asked c = compare.was_asked

pub returns-clause-lost : goal.returns-clause-lost
returns-clause-lost c = compare.lost

pub returns-clause-lost_is_last : goal.returns-clause-lost_is_last
returns-clause-lost_is_last c = compare.lost_is_last
