use Rattle.recovery.proofs.Common.{IsJoined, rules}
use Rattle.recovery.proofs.workers.joined.Goals as goal

pub returns-clause-joined : goal.returns-clause-joined
returns-clause-joined c =
    let joined : IsJoined c.in-Ok.table c.in-Ok-rest.later c.join.new.self = search rules in
    (c.in-Ok.table, c.in-Ok-rest.later, c.in-Ok.is, c.in-Ok-rest.is, joined)
