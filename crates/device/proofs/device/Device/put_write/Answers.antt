use Rattle.device.proofs.Common.{DeviceCore, HasPut, List, ap, area_key, arith, drop, subst, write_group, ℕ, ◌*◌, ◌+◌}
use Rattle.device.proofs.Common.{◌/◌, ◌∙◌}
use Rattle.std.proofs.Common.{take, ◌%◌}
use Rattle.device.specs.Groups.{IsBrought}
use Rattle.device.proofs.host_messages.PagesBrought.{one_put, two_put}
use Rattle.device.proofs.device.Device.put_write.Goals as goal

pub returns-then-bytes-room-clause-put : goal.returns-then-bytes-room-clause-put
returns-then-bytes-room-clause-put c =
    let low = c.if-bytes-room.true in
    subst (λ (d : DeviceCore). HasPut d.ftl c.accept_pages.new.self c.args.tag
    (write_group c.args.region c.args.address c.args.bytes.now c.args.settings.now) c.accept_pages.result) c.self.view_is
    (one_put c.self.inside.ftl c.accept_pages.new.self c.args.tag c.args.region c.args.address c.accept_pages.result c.args.bytes.now
    c.args.settings.now c.told-settings c.accept_pages.ensures.described_number c.accept_pages.ensures.claims
    (omega arith) c.area_brought.result c.settings_brought.result c.area_brought.ensures c.settings_brought.ensures
    c.accept_pages.ensures.described)

pub returns-else-bytes-room-clause-put : goal.returns-else-bytes-room-clause-put
returns-else-bytes-room-clause-put c =
    let high = c.if-bytes-room.false in
    let after = c.accept_pages-else-bytes-room in
    subst (λ (d : DeviceCore). HasPut d.ftl after.new.self c.args.tag
    (write_group c.args.region c.args.address c.args.bytes.now c.args.settings.now) after.result) c.self.view_is
    (two_put c.self.inside.ftl after.new.self c.args.tag c.args.region c.args.address after.result c.args.bytes.now
    c.args.settings.now c.told-settings after.ensures.described_number after.ensures.claims (omega arith)
    c.area_brought-else-bytes-room.result c.area_brought-else-bytes-room-2.result
    c.settings_brought-else-bytes-room.result
    (subst (λ (bs : List ℕ). IsBrought (area_key c.args.region (c.args.address / 16)) (c.args.address % 16) bs
    c.area_brought-else-bytes-room.result)
    (c.split_at.ensures.front ∙ ap (λ (n : ℕ). take (256 * n) c.args.bytes.now) c.from-room.ensures)
    c.area_brought-else-bytes-room.ensures)
    (subst (λ (bs : List ℕ). IsBrought (area_key c.args.region (c.args.address / 16 + 1)) 0 bs
    c.area_brought-else-bytes-room-2.result)
    (c.split_at.ensures.back ∙ ap (λ (n : ℕ). drop (256 * n) c.args.bytes.now) c.from-room.ensures)
    c.area_brought-else-bytes-room-2.ensures)
    c.settings_brought-else-bytes-room.ensures after.ensures.described)
