use Rattle.ufs_laws.proofs.pages.PageIsOneCell.{one_cell}
use Rattle.ufs_laws.proofs.pages.PageIsSomeCell.{some_cell}
use Rattle.ufs_laws.proofs.arrays.page_is_one_cell.Goals as goal

pub returns-clause-there : goal.returns-clause-there
returns-clause-there c = some_cell

pub returns-clause-one : goal.returns-clause-one
returns-clause-one c = one_cell
