use Rattle.ufs_bytes.proofs.ReadAgain.{rest_stays, length_stays}
use Rattle.ufs_bytes.proofs.laws.u16_is_read_again.Goals as goal

pub returns-clause-after : goal.returns-clause-after
returns-clause-after c = λ offset number bytes within. rest_stays 2 offset number bytes within

pub returns-clause-length : goal.returns-clause-length
returns-clause-length c = λ offset number bytes within. length_stays 2 offset number bytes within
