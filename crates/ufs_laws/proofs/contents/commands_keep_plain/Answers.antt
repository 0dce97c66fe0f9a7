use Rattle.ufs_laws.proofs.plain_contents.CommandsKeepPlain.{all_kept_plain, kept_plain}
use Rattle.ufs_laws.proofs.contents.commands_keep_plain.Goals as goal

pub returns-clause-one : goal.returns-clause-one
returns-clause-one c = kept_plain

pub returns-clause-many : goal.returns-clause-many
returns-clause-many c = all_kept_plain
