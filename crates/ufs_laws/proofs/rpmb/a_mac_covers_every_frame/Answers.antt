use Rattle.ufs_laws.proofs.rpmb_frames.FramesRead.{covered}
use Rattle.ufs_laws.proofs.rpmb_frames.Regions.{long_key, two_covered}
use Rattle.ufs_laws.proofs.rpmb.a_mac_covers_every_frame.Goals as goal

pub returns-clause-covered : goal.returns-clause-covered
returns-clause-covered c = covered

pub returns-clause-every_frame : goal.returns-clause-every_frame
returns-clause-every_frame c = two_covered

pub returns-clause-long_key : goal.returns-clause-long_key
returns-clause-long_key c = long_key
