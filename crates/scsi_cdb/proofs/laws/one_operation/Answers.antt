use Rattle.ufs_spec.proofs.CdbsBack.{again}
use Rattle.ufs_spec.proofs.CommandTable.{row_behind}
use Rattle.scsi_cdb.proofs.laws.one_operation.Goals as goal

pub returns-clause-known : goal.returns-clause-known
returns-clause-known c = λ bytes cdb spells. let its = row_behind bytes cdb spells in (its.row, its.found, its.kind_is)

pub returns-clause-spelled : goal.returns-clause-spelled
returns-clause-spelled c = again
