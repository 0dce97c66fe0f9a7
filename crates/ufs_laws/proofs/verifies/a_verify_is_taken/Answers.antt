use Rattle.ufs_laws.proofs.refusals.ProfileLines as line
use Rattle.ufs_laws.proofs.verifies.a_verify_is_taken.Goals as goal

pub returns-clause-older : goal.returns-clause-older
returns-clause-older c = line.verify_older

pub returns-clause-taken : goal.returns-clause-taken
returns-clause-taken c = line.verify_taken

pub returns-clause-flags : goal.returns-clause-flags
returns-clause-flags c = line.verify_with_flags

pub returns-clause-long : goal.returns-clause-long
returns-clause-long c = line.verify_long

pub returns-clause-past : goal.returns-clause-past
returns-clause-past c = line.verify_past

pub returns-clause-ready : goal.returns-clause-ready
returns-clause-ready c = line.verify_ready

pub returns-clause-device : goal.returns-clause-device
returns-clause-device c = line.verify_device

pub returns-clause-boot : goal.returns-clause-boot
returns-clause-boot c = line.verify_boot
