use Rattle.std.proofs.Common.{IfSome, Option, subst, sym}
use Rattle.ufs_spec.specs.Cdbs.{IsCdb}
use Rattle.ufs_spec.specs.declared.scsi.Cdb.{Cdb}
use Rattle.ufs_messages.proofs.ChosenCdbs.{asked_fits}
use Rattle.ufs_messages.proofs.commands.put_asking.Goals as goal

pub put_asked-requires : goal.put_asked-requires
put_asked-requires c =
    subst (λ (o : Option Cdb). IfSome o (λ (cdb : Cdb). IsCdb cdb)) (sym c.asked_cdb.ensures)
    (asked_fits c.args.operation c.args.allocation c.ranges.allocation.fits)
