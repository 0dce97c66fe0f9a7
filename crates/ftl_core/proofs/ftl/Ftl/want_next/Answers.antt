use Rattle.ftl_core.proofs.Common.{arith, is_pin_of, refl, wanted_now, ◌+◌}
use Rattle.std.proofs.lemmas.Grind.{common_steps}
use Rattle.ftl_core.proofs.live_pages.PinRooms.{roomy_left, roomy_looked}
use Rattle.ftl_core.proofs.small_calls.PinCalls.{wants_next}
use Rattle.ftl_core.proofs.stopped.EachStop.{stops_right}
use Rattle.ftl_core.proofs.ftl.Ftl.want_next.Goals as goal

pub returns-clause-described : goal.returns-clause-described
returns-clause-described c =
    wants_next c.args.self.now _ c.args.reader c.args.index (grind (arith, common_steps))

pub returns-clause-stop : goal.returns-clause-stop
returns-clause-stop c = λ t h. stops_right _ _ (returns-clause-described c t h)

pub invariant_of-self : goal.invariant_of-self
invariant_of-self c =
    roomy_looked (wanted_now c.args.reader (c.args.index + 1))
    (record c.self.inside { live = c.drop_one.new.live; pins = c.drop_one.new.self }) c.want.new.self
    (roomy_left (is_pin_of c.args.reader c.args.index) c.self.inside c.drop_one.new.live c.drop_one.new.self
    c.self.invariant c.drop_one.ensures.blocks c.drop_one.ensures.left)
    (λ p. refl) c.want.ensures
