use Rattle.power_loss.proofs.collected_blocks.FewestLivePages.{victim_is, victim_none}
use Rattle.power_loss.proofs.collection.the_victim_has_the_fewest_live_pages.Goals as goal

pub returns-clause-is : goal.returns-clause-is
returns-clause-is c = victim_is

pub returns-clause-none : goal.returns-clause-none
returns-clause-none c = victim_none
