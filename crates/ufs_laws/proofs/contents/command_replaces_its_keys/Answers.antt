use Rattle.ufs_laws.proofs.plain_contents.GroupsOfCommands.{many_commands, one_command}
use Rattle.ufs_laws.proofs.contents.command_replaces_its_keys.Goals as goal

pub returns-clause-one : goal.returns-clause-one
returns-clause-one c = one_command

pub returns-clause-many : goal.returns-clause-many
returns-clause-many c = many_commands
