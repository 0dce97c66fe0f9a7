use Rattle.ufs_laws.proofs.plain_contents.NewDevice.{new_plain, new_zeros}
use Rattle.ufs_laws.proofs.contents.new_device_is_zero.Goals as goal

pub returns-clause-plain : goal.returns-clause-plain
returns-clause-plain c = new_plain

pub returns-clause-zeros : goal.returns-clause-zeros
returns-clause-zeros c = new_zeros
