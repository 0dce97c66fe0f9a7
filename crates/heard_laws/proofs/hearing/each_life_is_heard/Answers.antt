use Rattle.heard_laws.proofs.hearing.each_life_is_heard.Goals as goal
use Rattle.heard_laws.proofs.lives.BaseRegions.{each_base_has_regions}
use Rattle.heard_laws.proofs.lives.LivesAgree.{each_life_is_heard, heard_is_life}

pub returns-clause-begins : goal.returns-clause-begins
returns-clause-begins c = each_base_has_regions

pub returns-clause-heard : goal.returns-clause-heard
returns-clause-heard c = each_life_is_heard

pub returns-clause-life : goal.returns-clause-life
returns-clause-life c = heard_is_life
