use Rattle.ufs_laws.proofs.exchanges.Attentions.{sense_ends}
use Rattle.ufs_laws.proofs.refusals.AttentionLines.{inquiry_passes, luns_pass, sense_not_ready, sense_of_nothing, sense_passes, sense_tells}
use Rattle.ufs_laws.proofs.attentions.some_commands_pass_an_attention.Goals as goal

pub returns-clause-inquiry : goal.returns-clause-inquiry
returns-clause-inquiry c = inquiry_passes

pub returns-clause-luns : goal.returns-clause-luns
returns-clause-luns c = luns_pass

pub returns-clause-sense : goal.returns-clause-sense
returns-clause-sense c = sense_passes

pub returns-clause-sense_ends : goal.returns-clause-sense_ends
returns-clause-sense_ends c = sense_ends

pub returns-clause-sense_tells : goal.returns-clause-sense_tells
returns-clause-sense_tells c = sense_tells

pub returns-clause-not_ready : goal.returns-clause-not_ready
returns-clause-not_ready c = sense_not_ready

pub returns-clause-nothing : goal.returns-clause-nothing
returns-clause-nothing c = sense_of_nothing
