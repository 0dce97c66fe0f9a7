use Rattle.ufsim.proofs.ImageLemmas.{appends_more, appends_none, blocks_more}
use Rattle.ufsim.proofs.image.write_die.Goals as goal

pub loop-block-init : goal.loop-block-init
loop-block-init g c = appends_none _

pub loop-block-preserved : goal.loop-block-preserved
loop-block-preserved g c =
    appends_more _ _ _ _ _ _ c.loop-block.invariant c.in_ok-write_block.ensures (blocks_more c.args.die.now c.loop-block.block)
