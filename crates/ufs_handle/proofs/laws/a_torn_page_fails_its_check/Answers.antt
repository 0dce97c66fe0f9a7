use Rattle.ufs_handle.proofs.TornPages.{torn_fails}
use Rattle.ufs_handle.proofs.laws.a_torn_page_fails_its_check.Goals as goal

pub returns : goal.returns
returns c = torn_fails
