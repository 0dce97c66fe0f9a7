use Rattle.ufs_laws.proofs.Common.{refl}
use Rattle.ufs_laws.proofs.decided_data.UnmapSlots.{gathers, header_claims}
use Rattle.ufs_laws.proofs.refusals.TakenRequests.{crowded, header_taken, taken}
use Rattle.ufs_laws.proofs.unmap.an_unmap_claims_slots_for_its_list.Goals as goal

pub returns-clause-no_list : goal.returns-clause-no_list
returns-clause-no_list c = λ s r unit. refl

pub returns-clause-gathers : goal.returns-clause-gathers
returns-clause-gathers c = gathers

pub returns-clause-claims : goal.returns-clause-claims
returns-clause-claims c = λ s r unit. refl

pub returns-clause-header_claims_none : goal.returns-clause-header_claims_none
returns-clause-header_claims_none c = header_claims

pub returns-clause-crowded : goal.returns-clause-crowded
returns-clause-crowded c = crowded

pub returns-clause-taken : goal.returns-clause-taken
returns-clause-taken c = taken

pub returns-clause-header_taken : goal.returns-clause-header_taken
returns-clause-header_taken c = header_taken
