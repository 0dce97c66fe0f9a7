use Rattle.std.proofs.Common.{replicate, ap, ◌∙◌}
use Rattle.std.specs.Vec.{with_items}
use Rattle.ufs_spec.specs.Plain.{with_part, zero_block}
use Rattle.ufs_spec.proofs.PlainFacts.{put_unit, put_blocks}
use Rattle.ufs_spec.proofs.plain_device.PlainDevice.set_zeros.Goals as goal

pub returns : goal.returns
returns c =
    let units = c.self.inside.units.items in
    let stored = c.index_mut-stored.result.now in
    let new = with_part c.args.address (replicate c.args.count zero_block) in
    let there = rw (← c.self.view_is) at c.requires.unit_in in
    let kept = c.replace_by_zeros.ensures
    ∙ ap (λ n. with_part c.args.address (replicate n zero_block) c.deref_mut.result.now) c.from.ensures in
    let written = put_blocks stored c.deref_mut.result.now c.replace_by_zeros.new.stored new c.deref_mut.ensures.value
    c.deref_mut.ensures.len c.replace_by_zeros.auto.stored kept in
    let put = put_unit units c.args.unit stored (with_items stored c.replace_by_zeros.new.stored) new there
    c.index_mut-stored.ensures.value written in
    rw (← c.self.view_is) (cc)
