use Rattle.recovery.proofs.Common.{map}
use Rattle.recovery.proofs.tables.Counts.{fault_of_place}
use Rattle.recovery.proofs.settings_found.settings_at.Goals as goal

pub returns-in-Err-clause-fault : goal.returns-in-Err-clause-fault
returns-in-Err-clause-fault g c =
    fault_of_place c.args.place (map g.D.Die.failed c.args.dies.now) (map g.D.Die.failed c.fetch.new.dies) c.in-Err.fault
    c.in-Err.ensures.fault
