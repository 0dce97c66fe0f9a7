use Rattle.std.proofs.Common.{◌≡◌, ◌++◌, replicate, drop}
use Rattle.ufs_spec.specs.Plain.{zero_block}
use Rattle.ufs_spec.proofs.PlainFacts.{fill_next}
use Rattle.ufs_spec.proofs.plain_device.fill_with_zeros.Goals as goal

pub loop-block-preserved : goal.loop-block-preserved
loop-block-preserved c =
    let so_far : c.loop-block.blocks ≡ replicate c.loop-block.block-index zero_block ++ drop c.loop-block.block-index
    c.args.blocks.now = c.loop-block.invariant in
    let next = fill_next c.loop-block.block-index zero_block c.args.blocks.now c.loop-block-test.true in
    cc
