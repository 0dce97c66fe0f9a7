use Rattle.std.proofs.Common.{◌∙◌, sym}
use Rattle.ufs_laws.proofs.rpmb_frames.FramesRead.{covered}
use Rattle.rpmb_frame.proofs.macs.covered_in.Goals as goal

pub returns-clause-of_frame : goal.returns-clause-of_frame
returns-clause-of_frame c = c.covered.ensures.place ∙ sym (covered c.args.frame.now c.told-frame c.fits-frame)
