use Rattle.std.proofs.Common.{◌<◌, [], ◌∷◌, length, arith, ap}
use Rattle.std.specs.Vec.{with_item}
use Rattle.ufs_spec.specs.Plain.{with_part}
use Rattle.ufs_spec.proofs.PlainFacts.{put_unit, unit_items, one_part}
use Rattle.ufs_spec.proofs.plain_device.PlainDevice.set_block.Goals as goal

pub returns : goal.returns
returns c =
    let units = c.self.inside.units.items in
    let stored = c.index_mut.result.now in
    let there = rw (← c.self.view_is) at c.requires.unit_in in
    let here = c.index_mut.ensures.value in
    let address_in = rw (← c.self.view_is) at c.requires.address_in in
    let within : c.args.address < length stored.items = omega
    (arith, address_in, ap length (unit_items units c.args.unit stored there here)) in
    let written = one_part c.args.address c.args.block.now stored.items within in
    let put = put_unit units c.args.unit stored (with_item stored c.args.address c.args.block.now)
    (with_part c.args.address (c.args.block.now ∷ [])) there here written in
    rw (← c.self.view_is) (cc)
