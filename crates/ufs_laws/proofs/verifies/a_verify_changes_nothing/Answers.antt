use Rattle.ufs_laws.proofs.frame_laws.Verifies as verify
use Rattle.ufs_laws.proofs.verifies.a_verify_changes_nothing.Goals as goal

pub returns-clause-accepted : goal.returns-clause-accepted
returns-clause-accepted c = verify.accepted

pub returns-clause-claims : goal.returns-clause-claims
returns-clause-claims c = verify.claims

pub returns-clause-groups : goal.returns-clause-groups
returns-clause-groups c = verify.groups
