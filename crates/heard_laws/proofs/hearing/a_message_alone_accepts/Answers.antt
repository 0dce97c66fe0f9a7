use Rattle.heard_laws.proofs.hearing.a_message_alone_accepts.Goals as goal
use Rattle.heard_laws.proofs.lives.MessagesAlone.{messages_alone}

pub returns : goal.returns
returns c = messages_alone
