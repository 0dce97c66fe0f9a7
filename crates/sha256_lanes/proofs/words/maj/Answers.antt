use Rattle.std.proofs.Common.{bit_and, bit_xor, refl, slice_index, ◌∙◌}
use Rattle.std.specs.Simd.Lanes.{zip2}
use Rattle.sha256_lanes.proofs.LaneByLane.{in_lanes}
use Rattle.sha256_lanes.proofs.Turns.{short_maj}
use Rattle.sha256_lanes.proofs.words.maj.Goals as goal

pub returns : goal.returns
returns c j h =
    in_lanes (λ x y z. zip2 bit_xor y (zip2 bit_and (zip2 bit_xor x y) (zip2 bit_xor y z)))
    (λ x y z. bit_xor y (bit_and (bit_xor x y) (bit_xor y z))) (λ a0 a1 a2 a3 b0 b1 b2 b3 c0 c1 c2 c3. refl)
    c.args.x c.args.y c.args.z c.fits-x.0 c.fits-y.0 c.fits-z.0 j h
    ∙ short_maj (slice_index c.args.x j) (slice_index c.args.y j) (slice_index c.args.z j)
