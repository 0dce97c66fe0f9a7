use Rattle.ufs_laws.proofs.refusals.AttentionLines.{inquiry_anywhere, other_nowhere, page_nowhere, refused_nowhere, sense_anywhere, sense_nowhere, type_nowhere, type_of_unit}
use Rattle.ufs_laws.proofs.attentions.a_lun_that_is_not_there_tells_so.Goals as goal

pub returns-clause-inquiry : goal.returns-clause-inquiry
returns-clause-inquiry c = inquiry_anywhere

pub returns-clause-identity : goal.returns-clause-identity
returns-clause-identity c = type_nowhere

pub returns-clause-identity_of_a_unit : goal.returns-clause-identity_of_a_unit
returns-clause-identity_of_a_unit c = type_of_unit

pub returns-clause-sense : goal.returns-clause-sense
returns-clause-sense c = sense_anywhere

pub returns-clause-sense_told : goal.returns-clause-sense_told
returns-clause-sense_told c = sense_nowhere

pub returns-clause-page : goal.returns-clause-page
returns-clause-page c = page_nowhere

pub returns-clause-other : goal.returns-clause-other
returns-clause-other c = other_nowhere

pub returns-clause-profile_0 : goal.returns-clause-profile_0
returns-clause-profile_0 c = refused_nowhere
