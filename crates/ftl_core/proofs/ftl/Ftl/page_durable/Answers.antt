use Rattle.ftl_core.proofs.Common.{Core, ap, arith, length}
use Rattle.ftl_core.proofs.live_pages.PinRooms.{roomy_moved}
use Rattle.ftl_core.proofs.ftl.Ftl.page_durable.Goals as goal

pub invariant_of-self : goal.invariant_of-self
invariant_of-self c =
    let slots = c.has_few_slots.ensures in
    let pages = ap (λ (z : Core). length z.pages) c.self.view_is in
    roomy_moved c.args.stored c.self.inside c.move_to.new.live c.move_to.new.self c.self.invariant
    c.move_to.ensures.blocks c.move_to.ensures.moved (omega (arith, slots, pages))
