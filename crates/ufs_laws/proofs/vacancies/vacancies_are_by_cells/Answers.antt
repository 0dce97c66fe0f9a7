use Rattle.ufs_laws.proofs.free_blocks.FirstVacancies.{stale, untouched}
use Rattle.ufs_laws.proofs.vacancies.vacancies_are_by_cells.Goals as goal

pub returns-clause-stale : goal.returns-clause-stale
returns-clause-stale c = stale

pub returns-clause-untouched : goal.returns-clause-untouched
returns-clause-untouched c = untouched
