use Rattle.ftl_core.proofs.live_pages.RestRooms.{roomy_filled}
use Rattle.ftl_core.proofs.ftl.Ftl.fill_rests.Goals as goal

pub invariant_of-self : goal.invariant_of-self
invariant_of-self c =
    roomy_filled c.self.inside c.unpin_rests.new.live c.fill_rests.new.self c.args.name c.as_slice.result.now
    c.self.invariant c.fill_rests.ensures.after c.unpin_rests.ensures.is
