use Rattle.std.proofs.Common.{◌≡◌, arith, refl}
use Rattle.sha2.specs.Sha256.{hash_after}
use Rattle.sha256_lanes.specs.Keyed.{part}
use Rattle.sha256_lanes.proofs.Tails.{part_next}
use Rattle.sha256_lanes.proofs.one.absorb_rows.Goals as goal

pub lanes-init : goal.lanes-init
unfolding hash_after
lanes-init c = λ p rowed. refl

pub lanes-preserved : goal.lanes-preserved
lanes-preserved c = λ p rowed.
    let lane = c.lanes.lane in
    part_next c.args.state.now p c.lanes.state _ lane (c.lanes.invariant p rowed)
    (c.compress.ensures (part p lane) (rowed lane (omega arith)))

pub returns : goal.returns
returns c = λ p rowed.
    let done : c.lanes.lane ≡ c.args.count = omega arith in
    rw done at (c.lanes.invariant p rowed)
