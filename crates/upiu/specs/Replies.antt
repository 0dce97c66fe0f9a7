-- The replies that a task gets, as messages.
use Rattle.ufs_spec.specs.declared.messages.Message.{Message}
use Rattle.ufs_spec.specs.declared.messages.Message.TheVariants as message
use Rattle.upiu.specs.declared.replies.Response.{Response}

-- the RESPONSE of these fields (JESD220, 10.7.2)
abbrev pub message_of : Response → Message
message_of r = message.Response r.flags r.lun r.tag r.response r.status r.residual r.sense
