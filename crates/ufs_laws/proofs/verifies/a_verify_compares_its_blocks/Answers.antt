use Rattle.ufs_laws.proofs.frame_laws.Compares as compare
use Rattle.ufs_laws.proofs.verifies.a_verify_compares_its_blocks.Goals as goal

pub returns-clause-goes_on : goal.returns-clause-goes_on
returns-clause-goes_on c = compare.goes_on

pub returns-clause-last : goal.returns-clause-last
returns-clause-last c = compare.last

pub returns-clause-differs : goal.returns-clause-differs
returns-clause-differs c = compare.differs
