use Rattle.std.proofs.Common.{arith}
use Rattle.sha256_lanes.proofs.Turns.{three_turns}
use Rattle.sha256_lanes.proofs.scalar.big_sigma0.Goals as goal

pub returns : goal.returns
returns c =
    rw (c.rotate_right-3.ensures, c.rotate_right-2.ensures, c.rotate_right.ensures)
    (three_turns c.args.x 2 11 9 (omega arith) (omega arith) (omega arith) (omega arith) (omega arith))
