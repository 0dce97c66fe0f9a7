use Rattle.std.proofs.Common.{slice_index}
use Rattle.sha2.specs.Sha256.{round_constants, schedule}
use Rattle.sha256_lanes.proofs.KeyedRows.{rounds_keyed}
use Rattle.sha256_lanes.proofs.scalar.step.Goals as goal

pub returns : goal.returns
returns c = λ b h rowed held.
    let t = c.args.t in
    rounds_keyed b h c.args.rows.now c.args.v c.round.result c.args.lane t c.requires.there rowed held
    (c.round.ensures (slice_index round_constants t) (slice_index (schedule b 48) t) (rowed t c.requires.there))
