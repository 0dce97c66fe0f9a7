use Rattle.ufs_laws.proofs.frame_laws.OneRequest as one
use Rattle.ufs_laws.proofs.requests.one_request_is_open.Goals as goal

pub returns-clause-busy : goal.returns-clause-busy
returns-clause-busy c = one.busy

pub returns-clause-claims : goal.returns-clause-claims
returns-clause-claims c = one.claims

pub returns-clause-gives_back : goal.returns-clause-gives_back
returns-clause-gives_back c = one.gives_back

pub returns-clause-too_long : goal.returns-clause-too_long
returns-clause-too_long c = one.too_long

pub returns-clause-no_frames : goal.returns-clause-no_frames
returns-clause-no_frames c = one.no_frames

pub returns-clause-too_long_to_read : goal.returns-clause-too_long_to_read
returns-clause-too_long_to_read c = one.too_long_to_read

pub returns-clause-no_frames_to_read : goal.returns-clause-no_frames_to_read
returns-clause-no_frames_to_read c = one.no_frames_to_read
