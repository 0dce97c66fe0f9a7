use Rattle.ufs_laws.proofs.rpmb_frames.FailedWrites.{locked_write, wrong_counter, wrong_mac}
use Rattle.ufs_laws.proofs.rpmb.worked_failures.Goals as goal

pub returns-clause-wrong_mac : goal.returns-clause-wrong_mac
returns-clause-wrong_mac c number region r locked f fs key other counter is_key below changed is =
    wrong_mac number region r locked f fs below key other counter is_key changed is

pub returns-clause-wrong_counter : goal.returns-clause-wrong_counter
returns-clause-wrong_counter c number region r locked f fs counter below is_not is =
    wrong_counter number region r locked f fs below counter is_not is

pub returns-clause-locked_write : goal.returns-clause-locked_write
returns-clause-locked_write c = locked_write
