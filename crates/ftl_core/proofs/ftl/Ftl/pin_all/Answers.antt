use Rattle.ftl_core.proofs.Common.{arith}
use Rattle.ftl_core.proofs.look_and_accept.KeptBlocks.{kept_count, kept_next}
use Rattle.ftl_core.proofs.ftl.Ftl.pin_all.Goals as goal

pub pin-requires : goal.pin-requires
pin-requires c =
    let many = kept_count c.args.self.now c.loop-index.self c.args.reader c.args.key c.args.all c.loop-index.index
    c.loop-index.invariant in
    omega (arith, many)

pub loop-index-preserved : goal.loop-index-preserved
loop-index-preserved c =
    kept_next c.args.self.now c.loop-index.self c.pin.new.self c.args.reader c.args.key c.args.all c.loop-index.index
    c.loop-index.invariant c.pin.ensures
