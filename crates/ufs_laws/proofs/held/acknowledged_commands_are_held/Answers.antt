use Rattle.ufs_laws.proofs.lives.HeldByAnswers.{flushed, flushed_before, forced, handed}
use Rattle.ufs_laws.proofs.held.acknowledged_commands_are_held.Goals as goal

pub returns-clause-forced_write : goal.returns-clause-forced_write
returns-clause-forced_write c = forced

pub returns-clause-flush : goal.returns-clause-flush
returns-clause-flush c = flushed

pub returns-clause-flush_before : goal.returns-clause-flush_before
returns-clause-flush_before c = flushed_before

pub returns-clause-handed_out : goal.returns-clause-handed_out
returns-clause-handed_out c = handed
