use Rattle.std.proofs.Common.{◌≡◌, take}
use Rattle.nand_model.proofs.mem_die.copied_blocks.Given as goal

abbrev pub invariant-loop-block : goal.invariant-loop-block
invariant-loop-block l = l.all.items ≡ take l.block-index l.blocks
