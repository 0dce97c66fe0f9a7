use Rattle.ufs_laws.proofs.refusals.LockedFlush.{answered}
use Rattle.ufs_laws.proofs.refusals.TakenRequests.{read_taken, unmap_protected}
use Rattle.ufs_laws.proofs.lock.a_locked_device_can_be_read.Goals as goal

pub returns-clause-unmap : goal.returns-clause-unmap
returns-clause-unmap c = unmap_protected

pub returns-clause-read : goal.returns-clause-read
returns-clause-read c = read_taken

pub returns-clause-flush : goal.returns-clause-flush
returns-clause-flush c = answered
