-- What a query makes of the state: it is answered at once, or is a setting, which is a command (JESD220, 10.7.8).
use Rattle.std.specs.Prelude.{Bool, None, Option, Some, [], if◌then◌else◌, length, nat_lt, not, ℕ, ◌&&◌, ◌+◌, ◌==◌, ◌∷◌}
use Rattle.ufs_spec.specs.Changes.{accepts, with_moves, with_short}
use Rattle.ufs_spec.specs.Commands.{Command}
use Rattle.ufs_spec.specs.Exchanges.{short_reply}
use Rattle.ufs_spec.specs.Moves.{Claim}
use Rattle.ufs_spec.specs.Plain.{Plain, apply}
use Rattle.ufs_spec.specs.Queries.{Query, descriptor_told, query_code, setting_of, value_told, volatile_after}
use Rattle.ufs_spec.specs.Refusals.{State, locked, mended, numbers_of, plain_now}
use Rattle.ufs_spec.specs.Translation.{free_slots}
use Rattle.ufs_spec.specs.declared.configs.Numbers.{Numbers}
use Rattle.ufs_spec.specs.declared.messages.Message.{Message}
use Rattle.ufs_spec.specs.declared.messages.Message.TheVariants as message
use Rattle.ufs_spec.specs.declared.volatile.Volatile.{Volatile}

-- a setting can be accepted: the device is mended and not locked, and a slot is free
abbrev pub may_set : State → Bool
may_set s = mended s && not (locked s) && nat_lt 0 (free_slots s.translation)

-- the answer to a query that has this code and tells nothing (JESD220, 10.7.9)
abbrev pub query_failed : ℕ → Query → ℕ → Message
query_failed tag q code = message.QueryResponse tag q.function code q.asked 0 0 (record { items = [] })

-- the answer to a query that succeeded: a descriptor's bytes with how many they are, or the value (JESD220, 10.7.9)
abbrev pub query_done : Numbers → Plain → Volatile → ℕ → Query → Message
query_done n p volatile tag q =
    message.QueryResponse tag q.function 0x00 q.asked (length (descriptor_told n q)) (value_told p volatile q)
    (record { items = descriptor_told n q })

-- a query that changes no plain state is answered at once; a volatile flag is set before its value is told
abbrev pub query_told : State → ℕ → Query → State
query_told s tag q =
    with_short (record s { volatile = volatile_after (numbers_of s) (mended s) s.volatile q })
    (short_reply tag
    (query_done (numbers_of s) (plain_now s) (volatile_after (numbers_of s) (mended s) s.volatile q) tag q))

-- a setting is accepted, and its answer waits until it is durable. It tells the value that it set; if the lock ends it
-- before, it is answered FFh
abbrev pub setting_accepted : State → ℕ → Query → Command → State
setting_accepted s tag q c =
    with_short (accepts (with_moves s (Claim 1 ∷ [])) c 1)
    (record {
      tag = tag;
      awaits = Some (length s.accepted + 1);
      reply = query_done (numbers_of s) (apply (plain_now s) c) s.volatile tag q;
      locked_reply = query_failed tag q 0xFF;
    })

-- a query that no line refuses
abbrev pub query_passed : State → ℕ → Query → Option Command → State
query_passed s tag q None = query_told s tag q
query_passed s tag q (Some c) = setting_accepted s tag q c

-- a query is answered by its code; no operation tells nothing
abbrev pub query_answered : State → ℕ → Query → ℕ → State
query_answered s tag q code =
    if (code == 0x00) && not (q.asked.opcode == 0) then query_passed s tag q (setting_of q)
    else with_short s (short_reply tag (query_failed tag q code))

-- what a QUERY REQUEST makes of the state (JESD220, 10.7.8 and 10.7.9): it is answered by its table
abbrev pub query_heard : State → ℕ → Query → State
query_heard s tag q = query_answered s tag q (query_code (numbers_of s) (plain_now s) (may_set s) q)
