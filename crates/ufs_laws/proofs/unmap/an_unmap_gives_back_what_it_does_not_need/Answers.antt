use Rattle.ufs_laws.proofs.decided_data.UnmapSlots.{accepted, claims, not_accepted}
use Rattle.ufs_laws.proofs.unmap.an_unmap_gives_back_what_it_does_not_need.Goals as goal

pub returns-clause-claims : goal.returns-clause-claims
returns-clause-claims c = claims

pub returns-clause-accepted : goal.returns-clause-accepted
returns-clause-accepted c = accepted

pub returns-clause-not_accepted : goal.returns-clause-not_accepted
returns-clause-not_accepted c = not_accepted
