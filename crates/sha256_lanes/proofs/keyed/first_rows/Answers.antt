use Rattle.std.proofs.Common.{◌≡◌, arith}
use Rattle.sha256_lanes.proofs.keyed.first_rows.Goals as goal

pub places-init : goal.places-init
places-init c = λ j h. (λ k lt. absurd (omega arith), λ t lt. absurd (omega arith))

pub places-preserved : goal.places-preserved
places-preserved c = λ j h. c.first_row.ensures j h (c.places.invariant j h)

pub returns : goal.returns
returns c = λ j h.
    let done : c.places.place ≡ 16 = omega arith in
    rw done at (c.places.invariant j h)
