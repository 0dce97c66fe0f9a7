use Rattle.std.proofs.Common.{refl, subst, sym}
use Rattle.ufs_spec.specs.declared.messages.Message.TheVariants.{DataOut}
use Rattle.ufs_messages.specs.Commands.{IsListOf}
use Rattle.ufs_messages.proofs.UnmapLists.{reads}
use Rattle.ufs_messages.proofs.commands.put_unmap_list.Goals as goal

pub returns : goal.returns
returns c = (
  c.list_of-list.result,
  subst (IsListOf c.args.address c.args.blocks) (sym c.list_of-list.ensures)
      (reads c.args.address c.args.blocks c.ranges.address.fits c.ranges.blocks.fits),
  (DataOut c.args.lun c.args.tag 0 c.data_of.result, (refl, refl, refl, c.data_of.ensures), c.put.ensures),
)
