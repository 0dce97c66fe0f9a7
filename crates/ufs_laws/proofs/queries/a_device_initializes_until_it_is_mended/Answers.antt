use Rattle.ufs_laws.proofs.exchanges.Initializing.{never_life, opened_unset, read_in_profile_0, read_init, read_mended, set_in_profile_0}
use Rattle.ufs_laws.proofs.exchanges.Initializing.{set_init, set_mended, set_told, stays_set}
use Rattle.ufs_laws.proofs.queries.a_device_initializes_until_it_is_mended.Goals as goal

pub returns-clause-set : goal.returns-clause-set
returns-clause-set c = set_init

pub returns-clause-set_tells : goal.returns-clause-set_tells
returns-clause-set_tells c = set_told

pub returns-clause-read : goal.returns-clause-read
returns-clause-read c = read_init

pub returns-clause-stays : goal.returns-clause-stays
returns-clause-stays c = stays_set

pub returns-clause-read_mended : goal.returns-clause-read_mended
returns-clause-read_mended c = read_mended

pub returns-clause-set_mended : goal.returns-clause-set_mended
returns-clause-set_mended c = set_mended

pub returns-clause-opened : goal.returns-clause-opened
returns-clause-opened c = opened_unset

pub returns-clause-profile_0 : goal.returns-clause-profile_0
returns-clause-profile_0 c = never_life

pub returns-clause-profile_0_reads : goal.returns-clause-profile_0_reads
returns-clause-profile_0_reads c = read_in_profile_0

pub returns-clause-profile_0_sets : goal.returns-clause-profile_0_sets
returns-clause-profile_0_sets c = set_in_profile_0
