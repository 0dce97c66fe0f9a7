use Rattle.std.proofs.Common.{IfSome, Option, subst, sym}
use Rattle.ufs_spec.specs.Cdbs.{IsCdb}
use Rattle.ufs_spec.specs.declared.scsi.Cdb.{Cdb}
use Rattle.ufs_messages.proofs.ChosenCdbs.{selected_fits}
use Rattle.ufs_messages.proofs.commands.put_asking_for.Goals as goal

pub put_asked-requires : goal.put_asked-requires
put_asked-requires c =
    subst (λ (o : Option Cdb). IfSome o (λ (cdb : Cdb). IsCdb cdb)) (sym c.selected_cdb.ensures)
    (selected_fits c.args.operation c.args.select c.args.allocation c.ranges.select.fits c.ranges.allocation.fits)
