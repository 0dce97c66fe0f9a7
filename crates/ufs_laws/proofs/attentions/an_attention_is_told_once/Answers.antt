use Rattle.ufs_laws.proofs.exchanges.Attentions.{call_leaves, met, refusal_ends, refusal_leaves_others}
use Rattle.ufs_laws.proofs.refusals.AttentionLines.{opened_has, taken_ends, told_once}
use Rattle.ufs_laws.proofs.attentions.an_attention_is_told_once.Goals as goal

pub returns-clause-opened : goal.returns-clause-opened
returns-clause-opened c = opened_has

pub returns-clause-met : goal.returns-clause-met
returns-clause-met c = met

pub returns-clause-ends : goal.returns-clause-ends
returns-clause-ends c = refusal_ends

pub returns-clause-others : goal.returns-clause-others
returns-clause-others c = refusal_leaves_others

pub returns-clause-taken : goal.returns-clause-taken
returns-clause-taken c = taken_ends

pub returns-clause-again : goal.returns-clause-again
returns-clause-again c = told_once

pub returns-clause-none_comes : goal.returns-clause-none_comes
returns-clause-none_comes c = call_leaves
