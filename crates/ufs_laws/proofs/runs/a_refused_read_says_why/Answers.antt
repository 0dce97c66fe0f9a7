use Rattle.ufs_laws.proofs.new_dies.NewDeviceExists.{mended_idle}
use Rattle.ufs_laws.proofs.refusals.RefusedCommands.{no_command, not_a_unit, past_the_end, too_many_blocks}
use Rattle.ufs_laws.proofs.runs.a_refused_read_says_why.Goals as goal

pub returns-clause-past_the_end : goal.returns-clause-past_the_end
returns-clause-past_the_end c = past_the_end

pub returns-clause-too_many_blocks : goal.returns-clause-too_many_blocks
returns-clause-too_many_blocks c = too_many_blocks

pub returns-clause-not_a_unit : goal.returns-clause-not_a_unit
returns-clause-not_a_unit c = not_a_unit

pub returns-clause-no_command : goal.returns-clause-no_command
returns-clause-no_command c = no_command

pub returns-clause-idle_device : goal.returns-clause-idle_device
returns-clause-idle_device c = mended_idle
