use Rattle.ufs_laws.proofs.free_blocks.FreedVictims.{bad, stale}
use Rattle.ufs_laws.proofs.vacancies.freed_victims_are_stale.Goals as goal

pub returns-clause-stale : goal.returns-clause-stale
returns-clause-stale c = stale

pub returns-clause-bad : goal.returns-clause-bad
returns-clause-bad c = bad
