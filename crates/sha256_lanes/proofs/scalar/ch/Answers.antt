use Rattle.std.proofs.Common.{arith}
use Rattle.sha256_lanes.proofs.Turns.{short_ch}
use Rattle.sha256_lanes.proofs.scalar.ch.Goals as goal

pub returns : goal.returns
returns c = short_ch c.args.x c.args.y c.args.z (omega arith) (omega arith) (omega arith)
