use Rattle.std.proofs.Common.{arith, refl, rules}
use Rattle.ufs_spec.specs.declared.messages.Message.TheVariants.{DataOut}
use Rattle.ufs_messages.proofs.DataOuts.{written}
use Rattle.ufs_messages.proofs.put_data_out.Goals as goal

pub returns : goal.returns
returns c =
    written c.args.lun c.args.tag c.args.offset c.args.sent.now
    (DataOut c.args.lun c.args.tag c.args.offset c.data_of.result) (search rules, omega arith) (refl, refl, refl, c.data_of.ensures)
    c.put.result c.args.into.now c.put.new.into c.put.ensures
