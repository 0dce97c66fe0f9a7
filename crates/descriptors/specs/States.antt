-- What an answer makes of the state of the device.
use Rattle.std.specs.Prelude.{ℕ, length}
use Rattle.ufs_spec.specs.Changes.{with_short}
use Rattle.ufs_spec.specs.Exchanges.{short_reply}
use Rattle.ufs_spec.specs.Queries.{Query, descriptor_told}
use Rattle.ufs_spec.specs.QueryAnswers.{query_failed, setting_accepted}
use Rattle.ufs_spec.specs.Refusals.{State, numbers_of}
use Rattle.ufs_spec.specs.declared.configs.Numbers.{Numbers}
use Rattle.ufs_spec.specs.declared.messages.Message.{Message}
use Rattle.ufs_spec.specs.declared.messages.Message.TheVariants as message
use Rattle.descriptors.specs.Answers.{command_of}
use Rattle.descriptors.specs.Codes.{response_byte}
use Rattle.descriptors.specs.declared.answers.QueryAnswer.{QueryAnswer}
use Rattle.descriptors.specs.declared.answers.QueryAnswer.TheVariants as answer
use Rattle.descriptors.specs.declared.answers.Told.{Told}

-- the QUERY RESPONSE to a query that is told this, and the bytes of a descriptor if it reads one (JESD220, 10.7.9)
abbrev pub response_telling : Numbers → ℕ → Query → Told → Message
response_telling n tag q told =
    message.QueryResponse tag q.function 0x00 q.asked (length (descriptor_told n q)) told.value
    (record { items = descriptor_told n q })

-- what an answer makes of the state: a code or what is told is answered at once, what is volatile is
-- as the answer says, and a setting is accepted
abbrev pub answered_by : State → ℕ → Query → QueryAnswer → State
answered_by s tag q (answer.Code code) = with_short s (short_reply tag (query_failed tag q (response_byte code)))
answered_by s tag q (answer.Told told) =
    with_short (record s { volatile = told.volatile })
    (short_reply tag (response_telling (numbers_of s) tag q told))
answered_by s tag q (answer.Setting setting) = setting_accepted s tag q (command_of setting)
