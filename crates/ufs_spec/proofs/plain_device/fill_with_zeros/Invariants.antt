use Rattle.std.proofs.Common.{◌≡◌, ◌++◌, replicate, drop}
use Rattle.ufs_spec.specs.Plain.{zero_block}
use Rattle.ufs_spec.proofs.plain_device.fill_with_zeros.Given as goal

abbrev pub invariant-loop-block : goal.invariant-loop-block
invariant-loop-block l = l.blocks ≡ replicate l.block-index zero_block ++ drop l.block-index l.initial.blocks
