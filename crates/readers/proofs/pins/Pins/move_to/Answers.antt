use Rattle.readers.proofs.Common.{ap, pins_in, without_pins, ◌∙◌}
use Rattle.readers.proofs.BarePins.{moves_bare}
use Rattle.readers.proofs.pins.Pins.move_to.Goals as goal

pub returns-clause-same : goal.returns-clause-same
returns-clause-same c =
    ap without_pins c.pin_moves.ensures.is
    ∙ moves_bare c.args.stored c.as_slice.result.now c.move_in.new.live
    ∙ ap without_pins c.move_in.ensures.blocks
    ∙ moves_bare c.args.stored (pins_in c.as_mut_slice.result.now) c.args.live.now
