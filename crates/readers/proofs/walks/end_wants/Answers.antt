use Rattle.readers.proofs.Common.{ap, arith, get_or, get_or_default, length, map_over_more, slice_set, wanted_no_more}
use Rattle.readers.proofs.Common.{◌<◌, ◌∙◌, ◌≡◌}
use Rattle.readers.proofs.walks.end_wants.Goals as goal

pub loop-pin-preserved : goal.loop-pin-preserved
loop-pin-preserved c =
    let i = c.loop-pin.pin-index in
    let f = wanted_no_more c.args.reader c.args.index in
    let less : i < length c.loop-pin.pins = omega arith in
    let x = get_or c.loop-pin.pins i c.wanted_no_more.result in
    let is : c.wanted_no_more.result ≡ f x = c.wanted_no_more.ensures
    ∙ ap f (get_or_default c.loop-pin.pins i _ c.wanted_no_more.result less) in
    ap (slice_set c.loop-pin.pins i) is
    ∙ map_over_more f c.args.pins.now c.loop-pin.pins i x (omega arith) c.loop-pin.invariant
    (get_or_default c.loop-pin.pins i c.wanted_no_more.result x less)
