use Rattle.power_loss.proofs.kept_pages.KeptAreThere.{page_kept, page_known, pin_not_erased, slot_kept}
use Rattle.power_loss.proofs.kept.kept_pages_stay.Goals as goal

pub returns-clause-page : goal.returns-clause-page
returns-clause-page c = page_kept

pub returns-clause-content : goal.returns-clause-content
returns-clause-content c = page_known

pub returns-clause-slot : goal.returns-clause-slot
returns-clause-slot c = slot_kept

pub returns-clause-not_erased : goal.returns-clause-not_erased
returns-clause-not_erased c = pin_not_erased
