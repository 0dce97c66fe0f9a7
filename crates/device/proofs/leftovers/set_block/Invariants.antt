use Rattle.device.proofs.Common.{◌≡◌}
use Rattle.device.proofs.dies_of_world.BlockWritten.{written_to}
use Rattle.device.proofs.leftovers.set_block.Given as goal

abbrev pub invariant-loop-index : goal.invariant-loop-index
invariant-loop-index l = l.die ≡ written_to l.fn.die l.block l.pages l.index
