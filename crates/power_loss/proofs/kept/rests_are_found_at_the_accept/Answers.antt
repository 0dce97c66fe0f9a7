use Rattle.std.proofs.Common.{refl}
use Rattle.power_loss.proofs.accepted_groups.RestsOfGroups.{rest_found, rests_told, whole_has_none}
use Rattle.power_loss.proofs.kept.rests_are_found_at_the_accept.Goals as goal

pub returns-clause-none : goal.returns-clause-none
returns-clause-none c = whole_has_none

pub returns-clause-added : goal.returns-clause-added
returns-clause-added c = λ t claimed g. refl

pub returns-clause-each : goal.returns-clause-each
returns-clause-each c = rests_told

pub returns-clause-all : goal.returns-clause-all
returns-clause-all c = rest_found
