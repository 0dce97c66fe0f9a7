use Rattle.ufs_laws.proofs.calls.any_owed_read_may_go.Goals as goal

pub returns-clause-each : goal.returns-clause-each
returns-clause-each c = λ t die want idle owed. (idle, owed)

pub returns-clause-no_other : goal.returns-clause-no_other
returns-clause-no_other c = λ t die reader place may. may.1
