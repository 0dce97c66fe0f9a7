use Rattle.geometry.proofs.Indexes.{block_found}
use Rattle.geometry.proofs.keys.data_index.Goals as goal

pub returns : goal.returns
returns c =
    block_found c.args.units.now c.args.unit c.args.address c.block_count.result c.if-unit-units.false
    c.if-address-units.false c.block_count.ensures.count
