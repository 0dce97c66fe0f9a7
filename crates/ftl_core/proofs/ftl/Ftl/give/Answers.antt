use Rattle.ftl_core.proofs.Common.{refl}
use Rattle.readers.specs.Pins.{wanted_no_more}
use Rattle.ftl_core.proofs.live_pages.PinRooms.{roomy_looked}
use Rattle.ftl_core.proofs.ftl.Ftl.give.Goals as goal

pub invariant_of-self : goal.invariant_of-self
invariant_of-self c =
    roomy_looked (wanted_no_more c.in-ForTask.tag c.in-ForTask.index) c.self.inside c.end_wants.new.self
    c.self.invariant (λ p. refl) c.end_wants.ensures
