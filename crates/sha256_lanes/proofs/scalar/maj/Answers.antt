use Rattle.sha256_lanes.proofs.Turns.{short_maj}
use Rattle.sha256_lanes.proofs.scalar.maj.Goals as goal

pub returns : goal.returns
returns c = short_maj c.args.x c.args.y c.args.z
