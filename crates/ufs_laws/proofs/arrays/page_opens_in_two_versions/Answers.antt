use Rattle.ufs_laws.proofs.pages.PageVersions.{old_opens, version_opened, written_opens}
use Rattle.ufs_laws.proofs.arrays.page_opens_in_two_versions.Goals as goal

pub returns-clause-version : goal.returns-clause-version
returns-clause-version c = version_opened

pub returns-clause-written : goal.returns-clause-written
returns-clause-written c = written_opens

pub returns-clause-old : goal.returns-clause-old
returns-clause-old c = old_opens
