use Rattle.ufs_laws.proofs.rpmb_frames.WorkedMacs.{case_1, case_2}
use Rattle.ufs_laws.proofs.rpmb.worked_macs.Goals as goal

pub returns-clause-case_1 : goal.returns-clause-case_1
returns-clause-case_1 c = case_1

pub returns-clause-case_2 : goal.returns-clause-case_2
returns-clause-case_2 c = case_2
