use Rattle.std.proofs.Common.{◌∙◌, arith, slice_index}
use Rattle.sha256_lanes.proofs.LaneByLane.{word_lt}
use Rattle.sha256_lanes.proofs.Turns.{three_turns, xored_turn}
use Rattle.sha256_lanes.proofs.words.big_sigma1.Goals as goal

pub returns : goal.returns
returns c j h =
    let x = c.args.x in
    let second = xored_turn x c.rotate_right.result c.rotate_right-2.result j 5 _ c.fits-x.0 (omega arith) h
    (c.rotate_right.ensures j h) (c.rotate_right-2.ensures j h) in
    xored_turn x c.rotate_right-2.result c.rotate_right-3.result j 6 _ c.fits-x.0 (omega arith) h second
    (c.rotate_right-3.ensures j h)
    ∙ three_turns (slice_index x j) 6 5 14 (word_lt x j c.fits-x.0 c.fits-x.1 h)
    (omega arith) (omega arith) (omega arith) (omega arith)
