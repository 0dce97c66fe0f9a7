use Rattle.ufs_laws.proofs.exchanges.ReadSendsBlocks as read
use Rattle.ufs_laws.proofs.frame_laws.AreaPages as area
use Rattle.ufs_laws.proofs.frame_laws.Verifies as verify
use Rattle.ufs_laws.proofs.verifies.a_verify_reads_its_blocks.Goals as goal

pub returns-clause-begins : goal.returns-clause-begins
returns-clause-begins c = verify.begins

pub returns-clause-contents : goal.returns-clause-contents
returns-clause-contents c = read.contents

pub returns-clause-waits : goal.returns-clause-waits
returns-clause-waits c = area.verify_waits

pub returns-clause-good : goal.returns-clause-good
returns-clause-good c = area.all_verified

pub returns-clause-lost : goal.returns-clause-lost
returns-clause-lost c = area.one_not_verified
