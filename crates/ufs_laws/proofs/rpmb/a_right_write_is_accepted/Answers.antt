use Rattle.ufs_laws.proofs.rpmb_frames.AcceptedWrites.{accepted_as}
use Rattle.ufs_laws.proofs.rpmb.a_right_write_is_accepted.Goals as goal

pub returns : goal.returns
returns c = accepted_as
