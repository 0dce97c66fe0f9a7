use Rattle.ufs_laws.proofs.exchanges.Attentions.{none_managed, not_managed, reset_leaves, reset_leaves_others}
use Rattle.ufs_laws.proofs.attentions.a_reset_leaves_an_attention.Goals as goal

pub returns-clause-left : goal.returns-clause-left
returns-clause-left c = reset_leaves

pub returns-clause-others : goal.returns-clause-others
returns-clause-others c = λ s byte meant lun other is. reset_leaves_others s byte meant lun is other

pub returns-clause-no_other : goal.returns-clause-no_other
returns-clause-no_other c = not_managed

pub returns-clause-no_unit : goal.returns-clause-no_unit
returns-clause-no_unit c = none_managed
