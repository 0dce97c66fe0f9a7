use Rattle.power_loss.proofs.stops.LeftCells.{within}
use Rattle.power_loss.proofs.stops.LeftFront.{front}
use Rattle.power_loss.proofs.stops.LeftIsSound.{prefix, sound, suits}
use Rattle.power_loss.proofs.a_stop_leaves_a_prefix.Goals as goal

-- src/lib.rt:30:1
pub returns-clause-within : goal.returns-clause-within
returns-clause-within c = within

-- src/lib.rt:30:1
pub returns-clause-sound : goal.returns-clause-sound
returns-clause-sound c = sound

-- src/lib.rt:30:1
pub returns-clause-suits : goal.returns-clause-suits
returns-clause-suits c = suits

-- src/lib.rt:30:1
pub returns-clause-prefix : goal.returns-clause-prefix
returns-clause-prefix c = prefix

pub returns-clause-front : goal.returns-clause-front
returns-clause-front c = front
