use Rattle.std.proofs.Common.{refl}
use Rattle.sha2.specs.Sha256.{hash_after}
use Rattle.sha256_lanes.specs.Hashes.{Holds}
use Rattle.sha256_lanes.proofs.LaneByLane.{below_four}
use Rattle.sha256_lanes.proofs.hashes.FourHashes.new.Goals as goal

pub returns : goal.returns
unfolding Holds hash_after
returns c = (refl, refl, refl, refl, refl, below_four _ refl refl refl refl)
