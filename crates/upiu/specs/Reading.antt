-- What the fields of a message's bytes name, whether or not the bytes spell it.
use Rattle.std.specs.Prelude.{◌≡◌, ◌≤◌, true, length, ◌==◌, ◌+◌, ℕ, List, slice_index, slice_range}
use Rattle.std.specs.Prelude.{bit_and, if◌then◌else◌, Option, Some, None, [], ◌∷◌, ◌++◌, drop}
use Rattle.ufs_bytes.specs.Fields.{field_at}
use Rattle.ufs_spec.specs.Messages.{AreFlags, IsAmong, IsEventKind, IsQueryFunction, code_of, is_among, known_codes}
use Rattle.ufs_spec.specs.Messages.{may_have}
use Rattle.ufs_spec.specs.Messages.{padding, segment_length, zeros}
use Rattle.ufs_spec.specs.declared.messages.Asked.{Asked}
use Rattle.ufs_spec.specs.declared.messages.Message.{Message}
use Rattle.ufs_spec.specs.declared.messages.Message.TheVariants.{NopOut, Command, DataOut, TaskRequest, QueryRequest}
use Rattle.ufs_spec.specs.declared.messages.Message.TheVariants.{NopIn, Response, DataIn, TaskResponse, ReadyToTransfer}
use Rattle.ufs_spec.specs.declared.messages.Message.TheVariants.{LinkEvent, QueryResponse}

-- the data segment that the header names
abbrev pub segment_in : List ℕ → List ℕ
segment_in bytes = slice_range bytes 32 (32 + segment_length bytes)

-- what a query asks for
abbrev pub asked_in : List ℕ → Asked
asked_in bytes =
    record {
      opcode = slice_index bytes 12;
      idn = slice_index bytes 13;
      index = slice_index bytes 14;
      selector = slice_index bytes 15;
    }

-- the sense data of a segment of n bytes, where there are some
abbrev pub sense_in : ℕ → List ℕ → Option (List ℕ)
sense_in n segment = if n == 0 then None else Some segment

-- the COMMAND of these fields
abbrev pub named_command : List ℕ → Message
named_command bytes =
    Command (slice_index bytes 1) (slice_index bytes 2) (slice_index bytes 3) (field_at 4 12 bytes)
    (slice_range bytes 16 32)

-- the DATA OUT of these fields
abbrev pub named_data_out : List ℕ → Message
named_data_out bytes =
    DataOut (slice_index bytes 2) (slice_index bytes 3) (field_at 4 12 bytes) (record { items = segment_in bytes })

-- the TASK MANAGEMENT REQUEST of these fields
abbrev pub named_task_request : List ℕ → Message
named_task_request bytes =
    TaskRequest (slice_index bytes 2) (slice_index bytes 3) (slice_index bytes 5) (slice_index bytes 19)

-- the QUERY REQUEST of these fields
abbrev pub named_query_request : List ℕ → Message
named_query_request bytes =
    QueryRequest (slice_index bytes 3) (slice_index bytes 5) (asked_in bytes) (field_at 2 18 bytes)
    (field_at 4 20 bytes) (record { items = segment_in bytes })

-- the RESPONSE of these fields
abbrev pub named_response : List ℕ → Message
named_response bytes =
    Response (slice_index bytes 1) (slice_index bytes 2) (slice_index bytes 3) (slice_index bytes 6)
    (slice_index bytes 7) (field_at 4 12 bytes) (sense_in (segment_length bytes) (segment_in bytes))

-- the DATA IN of these fields
abbrev pub named_data_in : List ℕ → Message
named_data_in bytes =
    DataIn (slice_index bytes 2) (slice_index bytes 3) (field_at 4 12 bytes) (record { items = segment_in bytes })

-- the READY TO TRANSFER of these fields
abbrev pub named_ready : List ℕ → Message
named_ready bytes =
    ReadyToTransfer (slice_index bytes 2) (slice_index bytes 3) (field_at 4 12 bytes) (field_at 4 16 bytes)

-- the QUERY RESPONSE of these fields
abbrev pub named_query_response : List ℕ → Message
named_query_response bytes =
    QueryResponse (slice_index bytes 3) (slice_index bytes 5) (slice_index bytes 6) (asked_in bytes)
    (field_at 2 18 bytes) (field_at 4 20 bytes) (record { items = segment_in bytes })

-- the message of these fields, where they are those of the kind with this transaction code; another code is read as
-- that of a QUERY RESPONSE
abbrev pub named_by : ℕ → List ℕ → Message
named_by code bytes =
    if code == 0x00 then NopOut (slice_index bytes 3)
    else if code == 0x01 then named_command bytes
    else if code == 0x02 then named_data_out bytes
    else if code == 0x04 then named_task_request bytes
    else if code == 0x16 then named_query_request bytes
    else if code == 0x1F then LinkEvent (slice_index bytes 5)
    else if code == 0x20 then NopIn (slice_index bytes 3)
    else if code == 0x21 then named_response bytes
    else if code == 0x22 then named_data_in bytes
    else if code == 0x24 then TaskResponse (slice_index bytes 2) (slice_index bytes 3) (slice_index bytes 15)
    else if code == 0x31 then named_ready bytes
    else named_query_response bytes

-- the message of these fields
abbrev pub named_message : List ℕ → Message
named_message bytes = named_by (code_of bytes) bytes

-- the fields that do not take every value of a byte are in their sets: the direction of a COMMAND, the flags of a
-- RESPONSE, the function of a query, the kind of a LINK EVENT, the response and the status of a RESPONSE
abbrev pub HasSets : Message → Type 0
HasSets (Command flags lun tag expected cdb) = AreFlags (bit_and flags 0xF8)
HasSets (QueryRequest tag function asked size value «data») = IsQueryFunction function
HasSets (LinkEvent kind) = IsEventKind kind
HasSets (Response flags lun tag response status residual sense) =
    AreFlags flags × IsAmong (0x00 ∷ 0x01 ∷ []) response × IsAmong (0x00 ∷ 0x02 ∷ 0x08 ∷ 0x28 ∷ []) status
HasSets (QueryResponse tag function response asked size value «data») = IsQueryFunction function
HasSets message = Unit {0}

-- what bytes without one of the early faults have
pub record Passes (bytes : List ℕ) : Type 0 where
  pub segment : segment_length bytes ≤ 4096
  pub may : may_have (code_of bytes) bytes (segment_length bytes) ≡ true
  pub total : length bytes ≡ 32 + segment_length bytes + padding (segment_length bytes)
  pub code : is_among known_codes (code_of bytes) ≡ true

-- a header comes first in these bytes, and zeros follow the data segment that the bytes name
abbrev pub IsAround : List ℕ → List ℕ → Type 0
IsAround header bytes =
    (bytes ≡ header ++ drop 32 bytes)
    × (drop (32 + segment_length bytes) bytes ≡ zeros (length (drop (32 + segment_length bytes) bytes)))
