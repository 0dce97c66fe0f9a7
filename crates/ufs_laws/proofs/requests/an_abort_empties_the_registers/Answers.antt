use Rattle.ufs_laws.proofs.frame_laws.AbortedFrames as aborting
use Rattle.ufs_laws.proofs.requests.an_abort_empties_the_registers.Goals as goal

pub returns-clause-emptied : goal.returns-clause-emptied
returns-clause-emptied c = aborting.emptied

pub returns-clause-others : goal.returns-clause-others
returns-clause-others c = aborting.others
