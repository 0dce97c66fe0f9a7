use Rattle.std.proofs.Common.{arith}
use Rattle.ufs_spec.proofs.CommandTable.{region_in}
use Rattle.ufs_spec.specs.declared.scsi.Cdb.TheVariants as cdb
use Rattle.scsi_cdb.proofs.laws.four_regions.Goals as goal

pub returns-clause-no_other : goal.returns-clause-no_other
returns-clause-no_other c = λ bytes region length more. (
  (λ spells. let few = region_in bytes (cdb.SecurityIn region length) spells in omega (arith, few, more)),
  (λ spells. let few = region_in bytes (cdb.SecurityOut region length) spells in omega (arith, few, more)),
)
