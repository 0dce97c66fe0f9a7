use Rattle.ufs_laws.proofs.refusals.AttentionLines.{never_in_profile_0, none_in_profile_0, sense_in_profile_0}
use Rattle.ufs_laws.proofs.attentions.profile_0_tells_no_attention.Goals as goal

pub returns-clause-none : goal.returns-clause-none
returns-clause-none c = none_in_profile_0

pub returns-clause-refused : goal.returns-clause-refused
returns-clause-refused c = never_in_profile_0

pub returns-clause-sense : goal.returns-clause-sense
returns-clause-sense c = sense_in_profile_0
