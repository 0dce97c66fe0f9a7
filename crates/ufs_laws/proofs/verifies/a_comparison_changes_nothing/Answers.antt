use Rattle.ufs_laws.proofs.frame_laws.Compares as compare
use Rattle.ufs_laws.proofs.verifies.a_comparison_changes_nothing.Goals as goal

pub returns-clause-accepted : goal.returns-clause-accepted
returns-clause-accepted c = compare.accepted

pub returns-clause-claims : goal.returns-clause-claims
returns-clause-claims c = compare.claims

pub returns-clause-groups : goal.returns-clause-groups
returns-clause-groups c = compare.groups
