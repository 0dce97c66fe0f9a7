use Rattle.ftl_core.proofs.Common.{Core, ap, ◌∙◌}
use Rattle.ftl_core.proofs.look_and_accept.Numbers.{numbers_right}
use Rattle.ftl_core.proofs.look_and_accept.PagesAccepted.{pages_told}
use Rattle.ftl_core.proofs.small_calls.ClaimedBlocks.{slots_released}
use Rattle.ftl_core.proofs.stopped.EachStop.{stops_right}
use Rattle.ftl_core.proofs.ftl.Ftl.accept_pages.Goals as goal

pub returns-clause-described : goal.returns-clause-described
returns-clause-described c =
    pages_told c.args.self.now c.append_pages.new.self c.args.pages.now c.args.reader c.has_few_units.ensures
    c.requires.parts c.requires.few c.append_pages.ensures.after

pub returns-clause-described_number : goal.returns-clause-described_number
returns-clause-described_number c = λ t h. c.append_pages.ensures.number ∙ numbers_right c.args.self.now t h

pub returns-clause-stop : goal.returns-clause-stop
returns-clause-stop c =
    λ t g claimed h claims brought may.
    stops_right _ _ (returns-clause-described c t g claimed h claims brought may)

pub returns-clause-claims : goal.returns-clause-claims
returns-clause-claims c =
    slots_released c.args.self.now c.append_pages.new.self c.args.reader
    (ap (λ (z : Core). z.claims) c.append_pages.ensures.after)
