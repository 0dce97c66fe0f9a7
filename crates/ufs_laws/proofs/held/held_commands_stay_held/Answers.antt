use Rattle.ufs_laws.proofs.Common.{OfReply, Reply, Some, arith, observe}
use Rattle.ufs_laws.proofs.lives.HeldAlongLives.{life_grows, life_held, short_held, task_held}
use Rattle.ufs_laws.proofs.held.held_commands_stay_held.Goals as goal

pub returns-clause-held : goal.returns-clause-held
returns-clause-held c = life_held

pub returns-clause-accepted : goal.returns-clause-accepted
returns-clause-accepted c = life_grows

pub returns-clause-task : goal.returns-clause-task
returns-clause-task c =
    λ s t m task n es os there waits life.
    let a = task_held s m task n there waits in
    let b = life_held (observe s Reply (OfReply (Some m))) t es os life in
    omega arith

pub returns-clause-short : goal.returns-clause-short
returns-clause-short c =
    λ s t m short n es os none there waits life.
    let a = short_held s m short n none there waits in
    let b = life_held (observe s Reply (OfReply (Some m))) t es os life in
    omega arith
