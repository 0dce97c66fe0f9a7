use Rattle.settings.proofs.SettingsRead.{zeros_say}
use Rattle.settings.proofs.page.Settings.new.Goals as goal

pub returns-clause-zeros : goal.returns-clause-zeros
returns-clause-zeros c = zeros_say
