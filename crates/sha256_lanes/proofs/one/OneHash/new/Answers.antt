use Rattle.std.proofs.Common.{refl}
use Rattle.sha2.specs.Sha256.{hash_after}
use Rattle.sha256_lanes.specs.One.{HoldsOne}
use Rattle.sha256_lanes.proofs.one.OneHash.new.Goals as goal

pub returns : goal.returns
unfolding HoldsOne hash_after
returns c = (refl, refl, refl)
