use Rattle.power_loss.proofs.kept_promises.GoodReplies.{flush_held, whole_write_held, write_held}
use Rattle.power_loss.proofs.kept_promises.ShortExchangesEnd.{setting_held}
use Rattle.power_loss.proofs.promises.good_promises_durability.Goals as goal

pub returns-clause-flush : goal.returns-clause-flush
returns-clause-flush c = flush_held

pub returns-clause-forced_write : goal.returns-clause-forced_write
returns-clause-forced_write c = write_held

pub returns-clause-short : goal.returns-clause-short
returns-clause-short c = setting_held

pub returns-clause-whole_write : goal.returns-clause-whole_write
returns-clause-whole_write c = whole_write_held
