use Rattle.std.proofs.Common.{bit_and, bit_xor, map, refl}
use Rattle.std.specs.Int.{bit_not, w32}
use Rattle.std.specs.Simd.Lanes.{zip2}
use Rattle.sha2.specs.Sha256.{ch}
use Rattle.sha256_lanes.proofs.LaneByLane.{in_lanes}
use Rattle.sha256_lanes.proofs.words.ch.Goals as goal

pub returns : goal.returns
returns c =
    in_lanes (λ x y z. zip2 bit_xor (zip2 bit_and x y) (zip2 bit_and (map (bit_not w32) x) z)) ch
    (λ a0 a1 a2 a3 b0 b1 b2 b3 c0 c1 c2 c3. refl) c.args.x c.args.y c.args.z c.fits-x.0 c.fits-y.0 c.fits-z.0
