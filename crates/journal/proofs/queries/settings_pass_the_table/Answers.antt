use Rattle.journal.proofs.SettingLines.{asked_passes, passed_is_asked}
use Rattle.journal.proofs.queries.settings_pass_the_table.Goals as goal

pub returns-clause-pass : goal.returns-clause-pass
returns-clause-pass c = λ n p q s e. asked_passes n p q s e

pub returns-clause-no_other : goal.returns-clause-no_other
returns-clause-no_other c = λ n p may q command is e. passed_is_asked n p may q command is e
