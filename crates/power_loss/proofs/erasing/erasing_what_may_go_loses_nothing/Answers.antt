use Rattle.power_loss.proofs.spent.BlockLost.{left_within}
use Rattle.power_loss.proofs.spent.BlockLostAtAnyMoment.{fine}
use Rattle.power_loss.proofs.spent.BeforeTheFirstMark.{move_start, opened_start}
use Rattle.power_loss.proofs.erasing.erasing_what_may_go_loses_nothing.Goals as goal

pub returns-clause-within : goal.returns-clause-within
returns-clause-within c = left_within

pub returns-clause-sound : goal.returns-clause-sound
returns-clause-sound c = λ t s crashed left m v st may crash loses n. (fine s crashed v st may crash loses n).sound

pub returns-clause-suits : goal.returns-clause-suits
returns-clause-suits c = λ t s crashed left m v st may crash loses n. (fine s crashed v st may crash loses n).suits

pub returns-clause-prefix : goal.returns-clause-prefix
returns-clause-prefix c = λ t s crashed left m kept v st may crash loses n.
    (fine s crashed v st may crash loses n).prefix kept

pub returns-clause-opened : goal.returns-clause-opened
returns-clause-opened c = opened_start

pub returns-clause-keeps : goal.returns-clause-keeps
returns-clause-keeps c = move_start
