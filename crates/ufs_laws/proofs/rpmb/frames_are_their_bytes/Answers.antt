use Rattle.ufs_laws.proofs.rpmb_frames.FramesRead.{all_bytes_again, are_frames, bytes_again, frame_again, frames_again}
use Rattle.ufs_laws.proofs.rpmb_frames.FramesRead.{is_frame}
use Rattle.ufs_laws.proofs.rpmb.frames_are_their_bytes.Goals as goal

pub returns-clause-frame : goal.returns-clause-frame
returns-clause-frame c = frame_again

pub returns-clause-bytes : goal.returns-clause-bytes
returns-clause-bytes c = bytes_again

pub returns-clause-is_frame : goal.returns-clause-is_frame
returns-clause-is_frame c = is_frame

pub returns-clause-frames : goal.returns-clause-frames
returns-clause-frames c = frames_again

pub returns-clause-all_bytes : goal.returns-clause-all_bytes
returns-clause-all_bytes c = all_bytes_again

pub returns-clause-are_frames : goal.returns-clause-are_frames
returns-clause-are_frames c = are_frames
