use Rattle.power_loss.proofs.lives.EachEventKeeps.{one_event}
use Rattle.power_loss.proofs.spoken_replies.TaskReplies.{each_speaks, life_speaks, opened_speaks}
use Rattle.power_loss.proofs.spoken_replies.ShortReplies.{call_speaks, due_spelled, short_message, shorts_life}
use Rattle.power_loss.proofs.spoken_replies.ShortReplies.{shorts_open}
use Rattle.ufs_laws.proofs.exchanges.ReplySizes.{reply_speaks, size}
use Rattle.power_loss.proofs.spellings.replies_can_be_spelled.Goals as goal

pub returns-clause-size : goal.returns-clause-size
returns-clause-size c = size

pub returns-clause-task : goal.returns-clause-task
returns-clause-task c = reply_speaks

pub returns-clause-open : goal.returns-clause-open
returns-clause-open c = opened_speaks

pub returns-clause-call : goal.returns-clause-call
returns-clause-call c = each_speaks

pub returns-clause-life : goal.returns-clause-life
returns-clause-life c = life_speaks one_event

pub returns-clause-short : goal.returns-clause-short
returns-clause-short c = short_message

pub returns-clause-shorts_open : goal.returns-clause-shorts_open
returns-clause-shorts_open c = shorts_open

pub returns-clause-shorts_call : goal.returns-clause-shorts_call
returns-clause-shorts_call c = call_speaks

pub returns-clause-shorts_life : goal.returns-clause-shorts_life
returns-clause-shorts_life c = shorts_life

pub returns-clause-due : goal.returns-clause-due
returns-clause-due c = due_spelled
