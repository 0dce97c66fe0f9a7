use Rattle.ufs_laws.proofs.array_cells.CrashedCells.{cell_crash, torn_is_nothing}
use Rattle.ufs_laws.proofs.calls.a_crash_of_pages_is_one_of_cells.Goals as goal

pub returns-clause-cells : goal.returns-clause-cells
returns-clause-cells c = cell_crash

pub returns-clause-torn : goal.returns-clause-torn
returns-clause-torn c = torn_is_nothing
