use Rattle.std.proofs.Common.{arith, length-append}
use Rattle.sha2.specs.Sha256.{initial_hash_256}
use Rattle.sha256_lanes.specs.One.{HoldsOne}
use Rattle.sha256_lanes.proofs.Tails.{taken}
use Rattle.sha256_lanes.proofs.one.OneHash.update.Goals as goal

pub returns : goal.returns
unfolding HoldsOne
returns c = λ m held. (
  omega (arith, held.0, length-append m c.args.blocks.now),
  omega (arith, held.1, length-append m c.args.blocks.now),
  taken initial_hash_256 m c.args.blocks.now _ _ (omega (arith, held.1)) (omega arith) held.2 c.absorb.ensures,
)
