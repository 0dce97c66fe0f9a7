use Rattle.ftl_core.proofs.live_pages.RestRooms.{roomy_written}
use Rattle.ftl_core.proofs.ftl.Ftl.note_written.Goals as goal

pub invariant_of-self : goal.invariant_of-self
invariant_of-self c =
    roomy_written c.self.inside c.mark_written.new.self c.args.number c.args.index c.args.place c.self.invariant
    c.mark_written.ensures
