use Rattle.std.specs.Vec.{with_items}
use Rattle.ufs_spec.specs.Plain.{with_part}
use Rattle.ufs_spec.proofs.PlainFacts.{put_unit, put_blocks}
use Rattle.ufs_spec.proofs.plain_device.PlainDevice.set_blocks.Goals as goal

pub returns : goal.returns
returns c =
    let units = c.self.inside.units.items in
    let stored = c.index_mut-stored.result.now in
    let new = with_part c.args.address c.args.blocks.now in
    let there = rw (← c.self.view_is) at c.requires.unit_in in
    let written = put_blocks stored c.deref_mut.result.now c.replace.new.stored new c.deref_mut.ensures.value
    c.deref_mut.ensures.len c.replace.auto.stored c.replace.ensures in
    let put = put_unit units c.args.unit stored (with_items stored c.replace.new.stored) new there
    c.index_mut-stored.ensures.value written in
    rw (← c.self.view_is) (cc)
