use Rattle.power_loss.proofs.collected_blocks.LivePages.{live_has_copy, live_never_erased}
use Rattle.power_loss.proofs.live_page_is_spent_by_a_copy_alone.Goals as goal

pub returns-clause-copied : goal.returns-clause-copied
returns-clause-copied c = live_has_copy

pub returns-clause-never_erased : goal.returns-clause-never_erased
returns-clause-never_erased c = live_never_erased
