-- The grammar of UPIUs, the messages between a host and a device (JESD220, 10.5 to 10.7): the one spelling of each
-- message, and what is wrong with bytes that spell none.
use Rattle.std.specs.Prelude.{◌⊎◌, ◌≡◌, ◌≢◌, ◌<◌, ◌≤◌, ◌+◌, ◌-◌, ◌%◌, ◌^◌, ◌==◌, ◌&&◌, ◌||◌, not, ℕ, Bool, true, false}
use Rattle.std.specs.Prelude.{IsTrue, List, [], ◌∷◌, ◌++◌, length, replicate, slice_index, bit_and, nat_lt}
use Rattle.std.specs.Prelude.{if◌then◌else◌, Option, Some, None}
use Rattle.byteorder.specs.Endian.{big_bytes}
use Rattle.ufs_bytes.specs.Fields.{field_at}
use Rattle.ufs_spec.specs.Codes.{command_code, data_in_code, data_out_code, link_event_code, nop_in_code, nop_out_code}
use Rattle.ufs_spec.specs.Codes.{query_request_code, query_response_code, ready_to_transfer_code, response_code}
use Rattle.ufs_spec.specs.Codes.{task_request_code, task_response_code}
use Rattle.ufs_spec.specs.declared.messages.Asked.{Asked}
use Rattle.ufs_spec.specs.declared.messages.Message.{Message}
use Rattle.ufs_spec.specs.declared.messages.Message.TheVariants.{NopOut, Command, DataOut, TaskRequest, QueryRequest}
use Rattle.ufs_spec.specs.declared.messages.Message.TheVariants.{NopIn, Response, DataIn, TaskResponse, ReadyToTransfer}
use Rattle.ufs_spec.specs.declared.messages.Message.TheVariants.{LinkEvent, QueryResponse}
use Rattle.ufs_spec.specs.declared.faults.HostFault.{HostFault}
use Rattle.ufs_spec.specs.declared.faults.HostFault.TheVariants.{Short, Length, Digest, Ehs, Code}

-- ## The spelling

-- n zero bytes, as the padding and the fields that are not named for a kind have them
abbrev pub zeros : ℕ → List ℕ
zeros n = replicate n 0

-- how many zero bytes pad n bytes to a multiple of four (this profile)
abbrev pub padding : ℕ → ℕ
padding n = (4 - n % 4) % 4

-- the 32 bytes of a header (JESD220, 10.6.2): transaction code, flags, LUN and task tag in bytes 0..3; command set type
-- 0, function, response and status in bytes 4..7; no extra header segment and no device information in bytes 8 and 9;
-- the data segment's length in bytes 10..11; the transaction's own fields in bytes 12..31
abbrev pub header : (code flags lun tag function response status segment : ℕ) → List ℕ → List ℕ
header code flags lun tag function response status segment fields =
    (code ∷ flags ∷ lun ∷ tag ∷ 0 ∷ function ∷ response ∷ status ∷ 0 ∷ 0 ∷ [])
    ++ big_bytes 2 segment ++ fields

-- the fields of a transfer: an offset in bytes 12..15 and a count of bytes in bytes 16..19
abbrev pub transfer : ℕ → ℕ → List ℕ
transfer offset count = big_bytes 4 offset ++ big_bytes 4 count ++ zeros 12

-- the fields of a query: opcode, IDN, index and selector in bytes 12..15, a length in bytes 18..19,
-- a value in bytes 20..23
abbrev pub query_fields : Asked → ℕ → ℕ → List ℕ
query_fields asked size value =
    (asked.opcode ∷ asked.idn ∷ asked.index ∷ asked.selector ∷ 0 ∷ 0 ∷ [])
    ++ big_bytes 2 size ++ big_bytes 4 value ++ zeros 8

-- the sense data of a RESPONSE, empty if it has none
abbrev pub sense_of : Option (List ℕ) → List ℕ
sense_of None = []
sense_of (Some sense) = sense

-- the data segment of a message, without its padding: the data of a transfer or a query, or the sense data of a
-- RESPONSE. The other kinds have none
abbrev pub segment_of : Message → List ℕ
segment_of (DataOut lun tag offset «data») = «data».items
segment_of (QueryRequest tag function asked size value «data») = «data».items
segment_of (Response flags lun tag response status residual sense) = sense_of sense
segment_of (DataIn lun tag offset «data») = «data».items
segment_of (QueryResponse tag function response asked size value «data») = «data».items
segment_of message = []

-- the header of each kind by its code (JESD220). From a host: NOP OUT 00h (10.7.11), COMMAND 01h (10.7.1), DATA OUT
-- 02h (10.7.3), TASK MANAGEMENT REQUEST 04h (10.7.6), QUERY REQUEST 16h (10.7.8). From what stands between host and
-- device: LINK EVENT 1Fh, with its kind in byte 5 and nothing else (this profile). From a device: NOP IN 20h
-- (10.7.12), RESPONSE 21h (10.7.2), DATA IN 22h (10.7.4), TASK MANAGEMENT RESPONSE 24h (10.7.7), READY TO TRANSFER
-- 31h (10.7.5), QUERY RESPONSE 36h (10.7.9)
abbrev pub header_of : Message → List ℕ
header_of (NopOut tag) = header nop_out_code 0 0 tag 0 0 0 0 (zeros 20)
header_of (Command flags lun tag expected cdb) =
    header command_code flags lun tag 0 0 0 0 (big_bytes 4 expected ++ cdb)
header_of (DataOut lun tag offset «data») =
    header data_out_code 0 lun tag 0 0 0 (length «data».items) (transfer offset (length «data».items))
header_of (TaskRequest lun tag function meant) =
    header task_request_code 0 lun tag function 0 0 0
    (zeros 3 ++ (lun ∷ []) ++ zeros 3 ++ (meant ∷ []) ++ zeros 12)
header_of (QueryRequest tag function asked size value «data») =
    header query_request_code 0 0 tag function 0 0 (length «data».items) (query_fields asked size value)
header_of (LinkEvent kind) = header link_event_code 0 0 0 kind 0 0 0 (zeros 20)
header_of (NopIn tag) = header nop_in_code 0 0 tag 0 0 0 0 (zeros 20)
header_of (Response flags lun tag response status residual sense) =
    header response_code flags lun tag 0 response status (length (sense_of sense))
    (big_bytes 4 residual ++ zeros 16)
header_of (DataIn lun tag offset «data») =
    header data_in_code 0 lun tag 0 0 0 (length «data».items) (transfer offset (length «data».items))
header_of (TaskResponse lun tag service) =
    header task_response_code 0 lun tag 0 0 0 0 (zeros 3 ++ (service ∷ []) ++ zeros 16)
header_of (ReadyToTransfer lun tag offset count) =
    header ready_to_transfer_code 0 lun tag 0 0 0 0 (transfer offset count)
header_of (QueryResponse tag function response asked size value «data») =
    header query_response_code 0 0 tag function response 0 (length «data».items) (query_fields asked size value)

-- the one spelling of a message: its header, and its data segment, padded with zeros to a multiple of four. What is not
-- named for a kind is zero (this profile)
abbrev pub spelling : Message → List ℕ
spelling message = header_of message ++ segment_of message ++ zeros (padding (length (segment_of message)))

-- ## The sets and widths of the fields

-- whether a number is in the list; `IsAmong` states it
abbrev pub is_among : List ℕ → ℕ → Bool
is_among [] n = false
is_among (x ∷ xs) n = (n == x) || is_among xs n

-- a number is in the list, as a statement
abbrev pub IsAmong : List ℕ → ℕ → Type 0
IsAmong set n = IsTrue (is_among set n)

-- a number fits a byte
abbrev pub IsByte : ℕ → Type 0
IsByte n = n < 2 ^ 8

-- all numbers of a list fit a byte; outside the list `slice_index` gives 0, which fits
abbrev pub AreBytes : List ℕ → Type 0
AreBytes bytes = (place : ℕ) → IsByte (slice_index bytes place)

-- 00h, 20h or 40h. Of the direction of a COMMAND's data (JESD220, 10.7.1): no data, write or read; of a RESPONSE (10.7.2):
-- as expected, underflow or overflow
abbrev pub AreFlags : ℕ → Type 0
AreFlags flags = IsAmong (0x00 ∷ 0x20 ∷ 0x40 ∷ []) flags

-- the flags of a COMMAND (JESD220, 10.7.1): the direction of its data; below it the command's priority, bit 2, and the task
-- attribute, bits 1..0
abbrev pub AreCommandFlags : ℕ → Type 0
AreCommandFlags flags = IsByte flags × AreFlags (bit_and flags 0xF8)

-- the data of one DATA OUT or DATA IN: 1 to 4096 bytes, a logical block at most (this profile)
abbrev pub IsTransferred : List ℕ → Type 0
IsTransferred bytes = (1 ≤ length bytes) × (length bytes ≤ 4096) × AreBytes bytes

-- a query's function is standard read (01h) or standard write (81h) (JESD220, 10.7.8)
abbrev pub IsQueryFunction : ℕ → Type 0
IsQueryFunction function = IsAmong (0x01 ∷ 0x81 ∷ []) function

-- what a query asks, its length and its value fit their fields: four bytes, 16 bits and 32 bits
abbrev pub IsQuery : Asked → ℕ → ℕ → Type 0
IsQuery asked size value =
    IsByte asked.opcode × IsByte asked.idn × IsByte asked.index × IsByte asked.selector
    × (size < 2 ^ 16) × (value < 2 ^ 32)

-- 20 bytes of sense data, a length and the eighteen of fixed sense data, are there exactly
-- with the status CHECK CONDITION
abbrev pub IsSense : ℕ → Option (List ℕ) → Type 0
IsSense status None = status ≢ 0x02
IsSense status (Some sense) = (status ≡ 0x02) × (length sense ≡ 20) × AreBytes sense

-- the kinds of LINK EVENT (this profile): 01h, a hardware reset; 02h, a reset of the link or of the host's controller
abbrev pub IsEventKind : ℕ → Type 0
IsEventKind kind = IsAmong (0x01 ∷ 0x02 ∷ []) kind

-- the fields of a message are in their sets and fit their widths (JESD220, 10.7). Data go with a QUERY REQUEST of
-- opcode 2 (write descriptor) alone, and with a QUERY RESPONSE of opcode 1 (read descriptor) and response 0 alone
abbrev pub IsMessage : Message → Type 0
IsMessage (NopOut tag) = IsByte tag
IsMessage (Command flags lun tag expected cdb) =
    AreCommandFlags flags × IsByte lun × IsByte tag × (expected < 2 ^ 32) × (length cdb ≡ 16) × AreBytes cdb
IsMessage (DataOut lun tag offset «data») =
    IsByte lun × IsByte tag × (offset < 2 ^ 32) × IsTransferred «data».items
IsMessage (TaskRequest lun tag function meant) = IsByte lun × IsByte tag × IsByte function × IsByte meant
IsMessage (QueryRequest tag function asked size value «data») =
    IsByte tag × IsQueryFunction function × IsQuery asked size value
    × (length «data».items ≤ 4096) × AreBytes «data».items × (asked.opcode ≢ 0x02 → «data».items ≡ [])
IsMessage (LinkEvent kind) = IsEventKind kind
IsMessage (NopIn tag) = IsByte tag
IsMessage (Response flags lun tag response status residual sense) =
    AreFlags flags × IsByte lun × IsByte tag × IsAmong (0x00 ∷ 0x01 ∷ []) response
    × IsAmong (0x00 ∷ 0x02 ∷ 0x08 ∷ 0x28 ∷ []) status × (residual < 2 ^ 32) × IsSense status sense
IsMessage (DataIn lun tag offset «data») =
    IsByte lun × IsByte tag × (offset < 2 ^ 32) × IsTransferred «data».items
IsMessage (TaskResponse lun tag service) = IsByte lun × IsByte tag × IsByte service
IsMessage (ReadyToTransfer lun tag offset count) = IsByte lun × IsByte tag × (offset < 2 ^ 32) × (count < 2 ^ 32)
IsMessage (QueryResponse tag function response asked size value «data») =
    IsByte tag × IsQueryFunction function × IsByte response × IsQuery asked size value
    × (length «data».items ≤ 4096) × AreBytes «data».items
    × ((asked.opcode ≡ 0x01) × (response ≡ 0x00) ⊎ («data».items ≡ []))

-- the fields of the message are in their sets, and the bytes are its spelling. Each message has one spelling,
-- and no bytes spell two messages
abbrev pub Spells : Message → List ℕ → Type 0
Spells message bytes = IsMessage message × (bytes ≡ spelling message)

-- ## What is wrong with bytes, in the order in which it is told

-- fault 1: fewer bytes than a header has
abbrev pub is_short : List ℕ → Bool
is_short bytes = nat_lt (length bytes) 32

-- the transaction code: bits 5..0 of byte 0, whatever the two bits above say
abbrev pub code_of : List ℕ → ℕ
code_of bytes = bit_and (slice_index bytes 0) 0x3F

-- the data segment's length as bytes 10..11 of the header say it, whatever follows
abbrev pub segment_length : List ℕ → ℕ
segment_length bytes = field_at 2 10 bytes

-- the transaction codes of the kinds that never have a data segment (JESD220, 10.7)
abbrev pub unsegmented_codes : List ℕ
unsegmented_codes =
    nop_out_code ∷ command_code ∷ task_request_code ∷ nop_in_code ∷ task_response_code ∷ ready_to_transfer_code ∷ []

-- whether a message of this transaction code may have a data segment of n bytes (JESD220, 10.7): DATA OUT and DATA IN
-- as many as they count; QUERY REQUEST with opcode 2 alone; RESPONSE 20 with status 02h, else none; QUERY RESPONSE
-- with opcode 1 and response 00h alone; the other kinds none. A code that is no kind's may have any
abbrev pub may_have : ℕ → List ℕ → ℕ → Bool
may_have code bytes n =
    if is_among (data_out_code ∷ data_in_code ∷ []) code then nat_lt 0 n && (n == field_at 4 16 bytes)
    else if code == query_request_code then (n == 0) || (slice_index bytes 12 == 0x02)
    else if code == response_code then (n == (if slice_index bytes 7 == 0x02 then 20 else 0))
    else if code == query_response_code then
    (n == 0) || ((slice_index bytes 12 == 0x01) && (slice_index bytes 6 == 0x00))
    else if is_among unsegmented_codes code then (n == 0)
    else true

-- fault 2: the data segment is longer than 4096 bytes or not of a length that the kind may have, or the bytes are not a
-- header and the segment padded to a multiple of four
abbrev pub has_wrong_length : List ℕ → Bool
has_wrong_length bytes =
    nat_lt 4096 (segment_length bytes) || not (may_have (code_of bytes) bytes (segment_length bytes))
    || not (length bytes == 32 + segment_length bytes + padding (segment_length bytes))

-- fault 3: HD or DD, bits 7 and 6 of byte 0, asks for a header or data digest, which this device does not have
abbrev pub has_digest : List ℕ → Bool
has_digest bytes = not (bit_and (slice_index bytes 0) 0xC0 == 0)

-- fault 4: byte 8 tells of an extra header segment, which this device does not have
abbrev pub has_extra_header : List ℕ → Bool
has_extra_header bytes = not (slice_index bytes 8 == 0)

-- the transaction codes of all twelve kinds (JESD220, 10.5)
abbrev pub known_codes : List ℕ
known_codes =
    nop_out_code ∷ command_code ∷ data_out_code ∷ task_request_code ∷ query_request_code ∷ link_event_code ∷ nop_in_code
    ∷ response_code ∷ data_in_code ∷ task_response_code ∷ ready_to_transfer_code ∷ query_response_code ∷ []

-- the transaction codes of the five kinds that a host sends
abbrev pub request_codes : List ℕ
request_codes = nop_out_code ∷ command_code ∷ data_out_code ∷ task_request_code ∷ query_request_code ∷ []

-- the same, and LINK EVENT, which comes the same way
abbrev pub host_codes : List ℕ
host_codes = nop_out_code ∷ command_code ∷ data_out_code ∷ task_request_code ∷ query_request_code ∷ link_event_code ∷ []

-- fault 5: a transaction code that is none of those that are taken
abbrev pub has_other_code : List ℕ → List ℕ → Bool
has_other_code codes bytes = not (is_among codes (code_of bytes))

-- the first of these five faults, where messages of these codes are taken. Without one a reserved byte or a field
-- outside its set may still be wrong, which is fault 6 (`IsHeard` in Machine)
abbrev pub fault_among : List ℕ → List ℕ → Option HostFault
fault_among codes bytes =
    if is_short bytes then Some Short
    else if has_wrong_length bytes then Some Length
    else if has_digest bytes then Some Digest
    else if has_extra_header bytes then Some Ehs
    else if has_other_code codes bytes then Some Code
    else None

-- what is wrong with bytes for whoever reads messages of all kinds, as a host does
abbrev pub read_fault_of : List ℕ → Option HostFault
read_fault_of bytes = fault_among known_codes bytes

-- what is wrong with bytes that come from a host: also a kind that only a device sends has fault 5. A device of profile 0
-- tells fault 5 of LINK EVENT too (Machine)
abbrev pub host_fault_of : List ℕ → Option HostFault
host_fault_of bytes = fault_among host_codes bytes
