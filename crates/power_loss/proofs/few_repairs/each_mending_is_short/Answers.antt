use Rattle.power_loss.proofs.repaired_keys.LivesMendSoon.{few_keys, lives_mend_soon, new_few, runs_mend_soon}
use Rattle.power_loss.proofs.repaired_keys.LivesMendSoon.{short_life, stopped_few}
use Rattle.power_loss.proofs.few_repairs.each_mending_is_short.Goals as goal

pub returns-clause-new_dies : goal.returns-clause-new_dies
returns-clause-new_dies c = new_few

pub returns-clause-keys : goal.returns-clause-keys
returns-clause-keys c = few_keys

pub returns-clause-turns : goal.returns-clause-turns
returns-clause-turns c = λ n array bad s t es os config blank sound few o life unmended.
    short_life n array bad s config blank sound few o t es os life unmended

pub returns-clause-stop : goal.returns-clause-stop
returns-clause-stop c = λ n array bad s t es os lefts left config blank sound few o life stops.
    stopped_few n array bad s config blank sound few o t es os lefts left life stops

pub returns-clause-lives : goal.returns-clause-lives
returns-clause-lives c = lives_mend_soon

pub returns-clause-runs : goal.returns-clause-runs
returns-clause-runs c = runs_mend_soon
