use Rattle.readers.proofs.Common.{ap, arith, get_or, get_or_default, length, map_over_more, moved_pin, slice_set, ◌<◌}
use Rattle.readers.proofs.Common.{◌∙◌, ◌≡◌}
use Rattle.readers.proofs.walks.move_pins.Goals as goal

pub loop-pin-preserved : goal.loop-pin-preserved
loop-pin-preserved c =
    let i = c.loop-pin.pin-index in
    let f = moved_pin c.args.stored in
    let less : i < length c.loop-pin.pins = omega arith in
    let x = get_or c.loop-pin.pins i c.moved.result in
    let is : c.moved.result ≡ f x = c.moved.ensures
    ∙ ap f (get_or_default c.loop-pin.pins i _ c.moved.result less) in
    ap (slice_set c.loop-pin.pins i) is
    ∙ map_over_more f c.args.pins.now c.loop-pin.pins i x (omega arith) c.loop-pin.invariant
    (get_or_default c.loop-pin.pins i c.moved.result x less)
