use Rattle.ftl_core.proofs.live_pages.RestRooms.{roomy_landed}
use Rattle.ftl_core.proofs.ftl.Ftl.land.Goals as goal

pub invariant_of-self : goal.invariant_of-self
invariant_of-self c =
    roomy_landed c.self.inside c.unpin_first.new.live c.land.new.self c.self.invariant c.land.ensures.after
    c.unpin_first.ensures.is
