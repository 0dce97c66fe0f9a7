use Rattle.ufs_laws.proofs.lives.LivesJoined.{cut, join, life_length}
use Rattle.ufs_laws.proofs.calls.a_life_begins_with_its_beginning.Goals as goal

pub returns-clause-cut : goal.returns-clause-cut
returns-clause-cut c = cut

pub returns-clause-join : goal.returns-clause-join
returns-clause-join c = join

pub returns-clause-one_output_each : goal.returns-clause-one_output_each
returns-clause-one_output_each c = life_length
