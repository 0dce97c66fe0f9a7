use Rattle.ufs_laws.proofs.rpmb_frames.RightWrites.{right_write, unlocked, what_is_written}
use Rattle.ufs_laws.proofs.rpmb.an_accepted_write_is_right.Goals as goal

pub returns-clause-right : goal.returns-clause-right
returns-clause-right c = right_write

pub returns-clause-unlocked : goal.returns-clause-unlocked
returns-clause-unlocked c = unlocked

pub returns-clause-written : goal.returns-clause-written
returns-clause-written c = what_is_written
