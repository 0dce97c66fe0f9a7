use Rattle.ufs_laws.proofs.new_dies.NewDeviceExists.{locked_new}
use Rattle.ufs_laws.proofs.refusals.LockedFlush.{locked_answered}
use Rattle.ufs_laws.proofs.refusals.TakenRequests.{locked_frames, locked_read, locked_unmap, locked_write, test_unready}
use Rattle.ufs_laws.proofs.lock.a_locked_device_is_read_before_it_is_mended.Goals as goal

pub returns-clause-exists : goal.returns-clause-exists
returns-clause-exists c = locked_new

pub returns-clause-read : goal.returns-clause-read
returns-clause-read c = locked_read

pub returns-clause-write : goal.returns-clause-write
returns-clause-write c = locked_write

pub returns-clause-unmap : goal.returns-clause-unmap
returns-clause-unmap c = locked_unmap

pub returns-clause-frames : goal.returns-clause-frames
returns-clause-frames c = locked_frames

pub returns-clause-flush : goal.returns-clause-flush
returns-clause-flush c = locked_answered

pub returns-clause-test_unit_ready : goal.returns-clause-test_unit_ready
returns-clause-test_unit_ready c = test_unready
