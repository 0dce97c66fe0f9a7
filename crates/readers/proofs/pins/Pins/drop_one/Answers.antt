use Rattle.readers.proofs.Common.{ap, is_pin_of, pins_in, without_pins, ◌∙◌}
use Rattle.readers.proofs.BarePins.{gone_bare}
use Rattle.readers.proofs.pins.Pins.drop_one.Goals as goal

pub returns-clause-same : goal.returns-clause-same
returns-clause-same c =
    let test = is_pin_of c.args.reader c.args.index in
    ap without_pins c.unpin_block_of.ensures.is
    ∙ gone_bare test c.as_slice.result.now c.drop_one_in.new.live
    ∙ ap without_pins c.drop_one_in.ensures.blocks
    ∙ gone_bare test (pins_in c.as_mut_slice.result.now) c.args.live.now
