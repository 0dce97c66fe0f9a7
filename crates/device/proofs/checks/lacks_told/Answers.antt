use Rattle.device.proofs.Common.{ap, sym, ◌∙◌}
use Rattle.ufs_spec.specs.Refusals.{lacks_page}
use Rattle.ufs_spec.specs.declared.operations.Told.{Told}
use Rattle.ufs_spec.specs.declared.scsi.Cdb.TheVariants.{Tell}
use Rattle.device.proofs.checks.lacks_told.Goals as goal

pub returns-in-Page : goal.returns-in-Page
returns-in-Page c = λ allocation.
    c.has_page.ensures.is allocation
    ∙ sym (ap (λ (told : Told). lacks_page c.args.numbers.now c.args.lun (Tell told c.args.select allocation))
    c.in-Page.is)
