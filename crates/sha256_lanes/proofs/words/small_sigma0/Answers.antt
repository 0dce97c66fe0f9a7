use Rattle.std.proofs.Common.{ℕ, ◌∙◌, ◌/◌, ◌^◌, ap, arith, bit_xor, slice_index}
use Rattle.sha256_lanes.proofs.LaneByLane.{word_lt, xor_shifted}
use Rattle.sha256_lanes.proofs.Turns.{two_turns, xored_turn}
use Rattle.sha256_lanes.proofs.words.small_sigma0.Goals as goal

pub returns : goal.returns
returns c j h =
    let x = c.args.x in
    let word = slice_index x j in
    let turns = xored_turn x c.rotate_right.result c.rotate_right-2.result j 7 _ c.fits-x.0 (omega arith) h
    (c.rotate_right.ensures j h) (c.rotate_right-2.ensures j h)
    ∙ two_turns word 7 11 (word_lt x j c.fits-x.0 c.fits-x.1 h) (omega arith) (omega arith) (omega arith) in
    xor_shifted 3 c.rotate_right-2.result x (omega arith) c.fits-x.0 j h
    ∙ ap (λ (y : ℕ). bit_xor y (word / 2 ^ 3)) turns
