use Rattle.std.proofs.Common.{◌≡◌, ◌*◌, ◌/◌, ◌++◌, arith, length, length-append}
use Rattle.sha256_lanes.specs.One.{HoldsOne, ending_size}
use Rattle.sha256_lanes.proofs.Tails.{digest_of_one}
use Rattle.sha256_lanes.proofs.one.OneHash.finish.Goals as goal

pub returns : goal.returns
unfolding HoldsOne
returns c = λ m held.
    let last = c.args.last.now in
    let q = 4 * (length last / 256) in
    let width : length last / 256 * 256 ≡ q * 64 = omega arith in
    digest_of_one m last _ _ c.ending.result _ _ _ _ q (ending_size (length c.split_at.result.1.now)) (omega (arith, held.1))
    held.2 (rw width at c.split_at.ensures.front) (rw width at c.split_at.ensures.back) (omega arith) c.absorb.ensures
    (omega arith) (c.ending.ensures (length (m ++ last)) (omega (arith, length-append m last))
    (omega (arith, length-append m last))) (rw c.ending_len.ensures at c.absorb_ending.ensures) c.digest.ensures
