use Rattle.heard_laws.proofs.hearing.what_is_heard_is_accepted.Goals as goal
use Rattle.heard_laws.proofs.lives.HeardLives.{accepted_is_heard, held_is_heard}

pub returns-clause-accepted : goal.returns-clause-accepted
returns-clause-accepted c = accepted_is_heard

pub returns-clause-acknowledged : goal.returns-clause-acknowledged
returns-clause-acknowledged c = held_is_heard
