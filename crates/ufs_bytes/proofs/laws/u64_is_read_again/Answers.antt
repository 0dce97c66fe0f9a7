use Rattle.ufs_bytes.proofs.ReadAgain.{field_again, rest_stays, length_stays}
use Rattle.ufs_bytes.proofs.laws.u64_is_read_again.Goals as goal

pub returns-clause-number : goal.returns-clause-number
returns-clause-number c = λ offset number bytes within fits. field_again 8 offset number bytes within fits

pub returns-clause-after : goal.returns-clause-after
returns-clause-after c = λ offset number bytes within. rest_stays 8 offset number bytes within

pub returns-clause-length : goal.returns-clause-length
returns-clause-length c = λ offset number bytes within. length_stays 8 offset number bytes within
