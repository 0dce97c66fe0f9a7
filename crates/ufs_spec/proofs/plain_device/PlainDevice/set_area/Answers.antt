use Rattle.std.proofs.Common.{ℕ, ◌<◌, sym, subst}
use Rattle.std.specs.Vec.{with_items}
use Rattle.ufs_spec.specs.Plain.{Region, with_part}
use Rattle.ufs_spec.specs.declared.plain_device.PlainRegion.{PlainRegion}
use Rattle.ufs_spec.proofs.PlainFacts.{put_blocks, put_region}
use Rattle.ufs_spec.proofs.plain_device.PlainDevice.set_area.Goals as goal

pub returns : goal.returns
returns c =
    let rs = c.self.inside.regions.items in
    let stored = c.index_mut-stored.result.now in
    let there = subst (λ (n : ℕ). c.args.region < n) (sym c.self.invariant.1) c.requires.region_in in
    let written = put_blocks stored.area c.deref_mut.result.now c.replace.new.stored
    (with_part c.args.offset c.args.bytes.now) c.deref_mut.ensures.value c.deref_mut.ensures.len c.replace.auto.stored
    c.replace.ensures in
    let replaced : PlainRegion = record {
      key = stored.key;
      area = with_items stored.area c.replace.new.stored;
      counter = stored.counter;
    } in
    let put = put_region rs c.args.region stored replaced
    (λ (old : Region). record {
      key = old.key;
      area = with_part c.args.offset c.args.bytes.now old.area;
      counter = old.counter;
    })
    there c.index_mut-stored.ensures.value
    (λ i. record { key = stored.key; area = written i; counter = stored.counter }) in
    rw (← c.self.view_is) (cc)
