use Rattle.power_loss.proofs.kept_pages.KeptAreThere.{rest_not_erased, rest_page}
use Rattle.power_loss.proofs.kept.a_rest_keeps_its_page.Goals as goal

pub returns-clause-page : goal.returns-clause-page
returns-clause-page c = rest_page

pub returns-clause-not_erased : goal.returns-clause-not_erased
returns-clause-not_erased c = rest_not_erased
