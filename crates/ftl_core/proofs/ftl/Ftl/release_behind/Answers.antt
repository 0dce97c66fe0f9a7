use Rattle.ftl_core.proofs.small_calls.ShortenedClaims.{claim_shortened, shortened_told}
use Rattle.ftl_core.proofs.stopped.EachStop.{stops_right}
use Rattle.ftl_core.proofs.ftl.Ftl.release_behind.Goals as goal

pub returns-clause-described : goal.returns-clause-described
returns-clause-described c =
    shortened_told c.args.self.now c.release_slots_behind.new.self c.args.reader c.args.count
    c.release_slots_behind.ensures

pub returns-clause-stop : goal.returns-clause-stop
returns-clause-stop c = λ t blocks h claimed. stops_right _ _ (returns-clause-described c t blocks h claimed)

pub returns-clause-claims : goal.returns-clause-claims
returns-clause-claims c =
    claim_shortened c.args.self.now c.release_slots_behind.new.self c.args.reader c.args.count
    c.release_slots_behind.ensures
