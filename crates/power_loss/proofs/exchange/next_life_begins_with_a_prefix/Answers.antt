use Rattle.power_loss.proofs.lives.NextLife.{prefix_left, sound_left, suits_left, within_left}
use Rattle.power_loss.proofs.exchange.next_life_begins_with_a_prefix.Goals as goal

pub returns-clause-sound : goal.returns-clause-sound
returns-clause-sound c = λ s lefts left v stops. sound_left s v lefts left stops

pub returns-clause-suits : goal.returns-clause-suits
returns-clause-suits c = λ s lefts left v stops. suits_left s v lefts left stops

pub returns-clause-within : goal.returns-clause-within
returns-clause-within c = λ s lefts left v blank stops. within_left v stops blank

pub returns-clause-prefix : goal.returns-clause-prefix
returns-clause-prefix c = λ s t lefts left bad v stops opened. prefix_left s v lefts left stops opened
