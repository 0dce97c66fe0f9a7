use Rattle.std.proofs.Common.{refl}
use Rattle.ufs_spec.specs.Pages.{zero_filled}
use Rattle.ufs_laws.proofs.formats.worked_settings.Goals as goal

pub returns-clause-filled : goal.returns-clause-filled
unfolding zero_filled
returns-clause-filled c n bytes = refl
