use Rattle.ftl_core.proofs.Common.{Core, ap, arith, length}
use Rattle.ftl_core.proofs.live_pages.PinRooms.{roomy_pinned}
use Rattle.ftl_core.proofs.ftl.Ftl.pin.Goals as goal

pub invariant_of-self : goal.invariant_of-self
invariant_of-self c =
    let few = c.requires in
    let seen = ap (λ (z : Core). length z.pins) c.self.view_is in
    let slots = c.has_few_slots.ensures in
    let pages = ap (λ (z : Core). length z.pages) c.self.view_is in
    roomy_pinned c.self.inside c.pin_block.new.live c.push.new.self _ c.self.invariant c.pin_block.ensures.is
    c.push.ensures (omega (arith, few, seen)) (omega (arith, slots, pages))
