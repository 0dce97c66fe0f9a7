use Rattle.ufs_laws.proofs.frame_laws.RegistersEmptied as emptying
use Rattle.ufs_laws.proofs.requests.last_data_empty_the_registers.Goals as goal

pub returns-clause-key_or_write : goal.returns-clause-key_or_write
returns-clause-key_or_write c = emptying.key_or_write

pub returns-clause-other_kinds : goal.returns-clause-other_kinds
returns-clause-other_kinds c = emptying.other_kinds

pub returns-clause-refused : goal.returns-clause-refused
returns-clause-refused c = emptying.refused

pub returns-clause-other_regions : goal.returns-clause-other_regions
returns-clause-other_regions c = emptying.other_regions
