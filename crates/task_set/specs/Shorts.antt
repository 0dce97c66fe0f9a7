-- What becomes of an exchange of one reply.
use Rattle.std.specs.Prelude.{ℕ, nat_le, Bool, false, true, if◌then◌else◌, Option, Some, None}
use Rattle.ufs_spec.specs.Exchanges.{number_of}
use Rattle.task_set.specs.declared.tasks.Short.{Short}
use Rattle.task_set.specs.declared.tasks.ShortReply.{ShortReply}
use Rattle.task_set.specs.declared.tasks.ShortReply.TheVariants as reply

-- the reply is one of task management
abbrev pub manages : ShortReply → Bool
manages (reply.Managed lun service) = true
manages (reply.TaskSetFull lun expected) = false
manages reply.NopIn = false
manages (reply.QueryFailed query response) = false
manages (reply.QueryDone query value) = false

-- the number by which the exchange is found: its tag, and 256 more if it is of task management
abbrev pub number_in : Short → ℕ
number_in short = number_of (manages short.reply) short.tag

-- nothing is awaited, or the group of this number is durable
abbrev pub is_met : ℕ → Option ℕ → Bool
is_met frontier None = true
is_met frontier (Some number) = nat_le number frontier

-- the reply of the exchange is due, where each group up to this number is durable
abbrev pub is_short_due : ℕ → Short → Bool
is_short_due frontier short = is_met frontier short.awaits

-- what is said in the place of a reply that a lock ends: a setting is told a general failure (JESD220, 10.7.9). No
-- other exchange waits
abbrev pub reply_locked : ShortReply → ShortReply
reply_locked (reply.QueryDone query value) = reply.QueryFailed query 0xFF
reply_locked (reply.QueryFailed query response) = reply.QueryFailed query response
reply_locked (reply.TaskSetFull lun expected) = reply.TaskSetFull lun expected
reply_locked reply.NopIn = reply.NopIn
reply_locked (reply.Managed lun service) = reply.Managed lun service

-- the exchange after the device was locked: what waits for a group that is not durable has failed
abbrev pub short_locked : ℕ → Short → Short
short_locked frontier short =
    if is_short_due frontier short then short
    else record short { awaits = None; reply = reply_locked short.reply }
