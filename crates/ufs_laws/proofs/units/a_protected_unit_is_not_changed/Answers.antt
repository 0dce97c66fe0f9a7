use Rattle.ufs_laws.proofs.refusals.TakenRequests.{header, no_blocks, no_list, permanent_unmap, permanent_write}
use Rattle.ufs_laws.proofs.refusals.TakenRequests.{power_on_unmap, power_on_write}
use Rattle.ufs_laws.proofs.units.a_protected_unit_is_not_changed.Goals as goal

pub returns-clause-power_on_write : goal.returns-clause-power_on_write
returns-clause-power_on_write c = power_on_write

pub returns-clause-power_on_unmap : goal.returns-clause-power_on_unmap
returns-clause-power_on_unmap c = power_on_unmap

pub returns-clause-permanent_write : goal.returns-clause-permanent_write
returns-clause-permanent_write c = permanent_write

pub returns-clause-permanent_unmap : goal.returns-clause-permanent_unmap
returns-clause-permanent_unmap c = permanent_unmap

pub returns-clause-no_blocks : goal.returns-clause-no_blocks
returns-clause-no_blocks c = λ s tag forced row ready. no_blocks s tag row ready forced

pub returns-clause-header : goal.returns-clause-header
returns-clause-header c = header

pub returns-clause-no_list : goal.returns-clause-no_list
returns-clause-no_list c = no_list
