use Rattle.readers.proofs.Common.{ap, is_of_reader, pins_in, without_pins, ◌∙◌}
use Rattle.readers.proofs.BarePins.{gone_bare}
use Rattle.readers.proofs.pins.Pins.drop_all.Goals as goal

pub returns-clause-same : goal.returns-clause-same
returns-clause-same c =
    let test = is_of_reader c.args.reader in
    ap without_pins c.unpin_blocks.ensures.is
    ∙ gone_bare test c.as_slice.result.now c.drop_all_in.new.live
    ∙ ap without_pins c.drop_all_in.ensures.blocks
    ∙ gone_bare test (pins_in c.self.inside.rows.items) c.args.live.now
