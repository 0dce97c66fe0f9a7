use Rattle.ufs_laws.proofs.refusals.ProfileLines as line
use Rattle.ufs_laws.proofs.verifies.a_comparing_verify_is_taken.Goals as goal

pub returns-clause-older : goal.returns-clause-older
returns-clause-older c = line.compared_older

pub returns-clause-taken : goal.returns-clause-taken
returns-clause-taken c = line.compared_taken

pub returns-clause-none : goal.returns-clause-none
returns-clause-none c = line.none_compared

pub returns-clause-direction : goal.returns-clause-direction
returns-clause-direction c = line.compared_direction

pub returns-clause-fewer : goal.returns-clause-fewer
returns-clause-fewer c = line.compared_fewer

pub returns-clause-long : goal.returns-clause-long
returns-clause-long c = line.compared_long

pub returns-clause-past : goal.returns-clause-past
returns-clause-past c = line.compared_past
