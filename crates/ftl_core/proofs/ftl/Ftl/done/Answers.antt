use Rattle.ftl_core.proofs.Common.{option_map, rules}
use Rattle.ftl_core.specs.Ended.{ended_now}
use Rattle.ftl_core.proofs.job_ended.Endings.{ends_known, ends_right, ends_told}
use Rattle.ftl_core.proofs.job_ended.SameClaims.{still_claimed}
use Rattle.ftl_core.proofs.pins.ReadsAwaited.{read_awaited}
use Rattle.ftl_core.proofs.stopped.EachStop.{stops_right}
use Rattle.ftl_core.proofs.ftl.Ftl.done.Goals as goal

pub returns-in_err-row-clause-described : goal.returns-in_err-row-clause-described
returns-in_err-row-clause-described c =
    ends_right c.args.self.now _ c.args.die c.args.outcome.now c.args.tag.now c.requires (search rules)

pub returns-in_err-row-clause-told : goal.returns-in_err-row-clause-told
returns-in_err-row-clause-told c = ends_told c.args.self.now c.args.die c.args.outcome.now _ (search rules)

pub returns-in_err-row-clause-read : goal.returns-in_err-row-clause-read
returns-in_err-row-clause-read c = read_awaited c.args.self.now c.args.die

pub returns-clause-known : goal.returns-clause-known
returns-clause-known c =
    ends_known c.args.self.now c.args.die c.args.outcome.now c.job_ended.result (search rules)

pub returns-clause-described : goal.returns-clause-described
returns-clause-described c =
    ends_right c.args.self.now c.job_ended.new.self c.args.die c.args.outcome.now c.args.tag.now c.requires
    (search rules)

pub returns-clause-told : goal.returns-clause-told
returns-clause-told c =
    ends_told c.args.self.now c.args.die c.args.outcome.now (option_map ended_now c.job_ended.result) (search rules)

pub returns-clause-read : goal.returns-clause-read
returns-clause-read c = read_awaited c.args.self.now c.args.die

pub returns-in_err-row-clause-stop : goal.returns-in_err-row-clause-stop
returns-in_err-row-clause-stop c = λ t ending h is may.
    stops_right _ _ (returns-in_err-row-clause-described c t ending h is may)

pub returns-clause-stop : goal.returns-clause-stop
returns-clause-stop c = λ t ending h is may. stops_right _ _ (returns-clause-described c t ending h is may)

pub returns-clause-claims : goal.returns-clause-claims
returns-clause-claims c =
    still_claimed c.args.self.now c.job_ended.new.self c.args.die c.args.outcome.now c.args.tag.now (search rules)
