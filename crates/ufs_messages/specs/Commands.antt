-- The messages of a host that are whole commands, queries and short exchanges.
use Rattle.std.specs.Prelude.{◌≡◌, ◌≢◌, ◌≤◌, ◌*◌, ◌^◌, ℕ, ◌==◌, ◌&&◌, ◌||◌, Bool, true, false, List, [], ◌∷◌, ◌++◌}
use Rattle.std.specs.Prelude.{Option, Some, None, Result, Ok, Err, if◌then◌else◌, length, nat_le, nat_lt, replicate}
use Rattle.byteorder.specs.Endian.{big_bytes}
use Rattle.ufs_bytes.specs.Fields.{field_at}
use Rattle.ufs_spec.specs.CdbFields.{no_limit, selects_modes}
use Rattle.ufs_spec.specs.Cdbs.{Direction, IsCdb, NoData, SpellsCdb, ToDevice, ToHost, cdb_bytes, direction_of}
use Rattle.ufs_spec.specs.Cdbs.{length_of, option_byte, selects_operations}
use Rattle.ufs_spec.specs.DataOuts.{has_list_header}
use Rattle.ufs_spec.specs.Frames.{frame_bytes, frame_in}
use Rattle.ufs_spec.specs.Messages.{IsEventKind, is_among}
use Rattle.ufs_spec.specs.declared.messages.Asked.{Asked}
use Rattle.ufs_spec.specs.declared.messages.Message.{Message}
use Rattle.ufs_spec.specs.declared.messages.Message.TheVariants.{Command, LinkEvent, NopOut, QueryRequest, TaskRequest}
use Rattle.ufs_spec.specs.declared.scsi.Cdb.{Cdb}
use Rattle.ufs_spec.specs.declared.operations.TheConstants.{FUA, IMMED, INQUIRY, MAINTENANCE_IN, MODE_SENSE_10}
use Rattle.ufs_spec.specs.declared.operations.TheConstants.{MODE_SENSE_6, PRE_FETCH_16, READ_16, READ_CAPACITY_10}
use Rattle.ufs_spec.specs.declared.operations.TheConstants.{REPORT_LUNS, REQUEST_SENSE, SEND_DIAGNOSTIC}
use Rattle.ufs_spec.specs.declared.operations.TheConstants.{SERVICE_ACTION_IN_16, SYNCHRONIZE_CACHE_16, TEST_UNIT_READY}
use Rattle.ufs_spec.specs.declared.operations.TheConstants.{WRITE_16}
use Rattle.ufs_spec.specs.declared.operations.Told.TheVariants as told
use Rattle.ufs_spec.specs.declared.scsi.Cdb.TheVariants.{Diagnose, Flush, Nothing, Prefetch, Read, SecurityIn}
use Rattle.ufs_spec.specs.declared.scsi.Cdb.TheVariants.{SecurityOut, Tell, Unmap, Verify, Write}
use Rattle.ufs_spec.specs.Frames as frames
use Rattle.ufs_handle.specs.Buffers.{IsPut}
use Rattle.ufs_handle.specs.declared.fault.Fault.{Fault}
use Rattle.ufs_handle.specs.declared.fault.Fault.TheVariants as fault
use Rattle.ufs_messages.specs.Written.{IsDataOutWritten, IsSaid, IsWritten}
use Rattle.ufs_messages.specs.declared.security.PlainFrame.{PlainFrame}

-- ## Commands

-- the flags of a COMMAND (JESD220, 10.7.1) by the way in which its data go
abbrev pub flags_of : Direction → ℕ
flags_of NoData = 0x00
flags_of ToDevice = 0x20
flags_of ToHost = 0x40

-- the COMMAND with just this CDB is put into the buffer, with the flags of its data and this expected length
abbrev pub IsCdbWritten : ℕ → ℕ → ℕ → Cdb → Result (Unit {0}) Fault → List ℕ → List ℕ → Type 0
IsCdbWritten lun tag expected cdb answer room into =
    IsCdb cdb × IsWritten (Command (flags_of (direction_of cdb)) lun tag expected (cdb_bytes cdb)) answer room into

-- a READ(10) of these blocks, of 4096 bytes each
abbrev pub IsRead : ℕ → ℕ → ℕ → ℕ → Result (Unit {0}) Fault → List ℕ → List ℕ → Type 0
IsRead lun tag address blocks answer room into =
    IsCdbWritten lun tag (blocks * 4096) (Read address blocks) answer room into

-- a WRITE(10) of these blocks, with FUA or without it
abbrev pub IsWrite : ℕ → ℕ → ℕ → ℕ → Bool → Result (Unit {0}) Fault → List ℕ → List ℕ → Type 0
IsWrite lun tag address blocks forced answer room into =
    IsCdbWritten lun tag (blocks * 4096) (Write address blocks forced) answer room into

-- a VERIFY(10) of these blocks: with BYTCHK 01 it compares them with as many bytes of its host, and else it has no data
abbrev pub IsVerify : ℕ → ℕ → ℕ → ℕ → Bool → Result (Unit {0}) Fault → List ℕ → List ℕ → Type 0
IsVerify lun tag address blocks compared answer room into =
    IsCdbWritten lun tag (if compared then blocks * 4096 else 0) (Verify address blocks compared) answer room into

-- a SYNCHRONIZE CACHE(10), with IMMED or without it
abbrev pub IsFlush : ℕ → ℕ → Bool → Result (Unit {0}) Fault → List ℕ → List ℕ → Type 0
IsFlush lun tag immediate answer room into =
    IsCdbWritten lun tag 0 (Flush immediate) answer room into

-- an UNMAP whose list has 24 bytes: a header and one descriptor
abbrev pub IsUnmap : ℕ → ℕ → Result (Unit {0}) Fault → List ℕ → List ℕ → Type 0
IsUnmap lun tag answer room into = IsCdbWritten lun tag 24 (Unmap 24) answer room into

-- the list of an UNMAP as the device reads it: its header is right, and it has one descriptor, with this address and this
-- count of blocks
pub record IsListOf (address count : ℕ) (list : List ℕ) : Type 0 where
  pub long : length list ≡ 24
  pub header : has_list_header list ≡ true
  pub address_is : field_at 8 8 list ≡ address
  pub count_is : field_at 4 16 list ≡ count
  pub rest : field_at 4 20 list ≡ 0

-- the bytes of such a list (SBC, UNMAP parameter list)
abbrev pub list_bytes : ℕ → ℕ → List ℕ
list_bytes address count =
    (0 ∷ 22 ∷ 0 ∷ 16 ∷ 0 ∷ 0 ∷ 0 ∷ 0 ∷ []) ++ big_bytes 8 address ++ big_bytes 4 count ++ replicate 4 0

-- the DATA OUT of such a list
abbrev pub IsUnmapList : ℕ → ℕ → ℕ → ℕ → Result (Unit {0}) Fault → List ℕ → List ℕ → Type 0
IsUnmapList lun tag address count answer room into =
    (list : List ℕ) × IsListOf address count list × IsDataOutWritten lun tag 0 list answer room into

-- the command with this operation code that asks for no more than so many bytes; none where the code is another one, or the
-- number has no room in its field. REPORT LUNS asks for the units of the configuration and the well-known ones
abbrev pub asked_cdb : ℕ → ℕ → Option Cdb
asked_cdb operation allocation =
    if operation == TEST_UNIT_READY then Some Nothing
    else if operation == READ_CAPACITY_10 then Some (Tell told.Capacity 0 no_limit)
    else if operation == REPORT_LUNS then Some (Tell told.Units 2 allocation)
    else if (operation == INQUIRY) && nat_lt allocation 65536 then Some (Tell told.Identity 0 allocation)
    else if (operation == REQUEST_SENSE) && nat_lt allocation 256 then Some (Tell told.Sense 0 allocation)
    else if operation == SERVICE_ACTION_IN_16 then Some (Tell told.LongCapacity 0 allocation)
    else None

-- bytes 2 and 3 of MODE SENSE select mode pages (SPC)
abbrev pub selects_pages : ℕ → Bool
selects_pages select = nat_lt select 65536 && selects_modes select

-- the command with this operation code that asks for what is selected: a page of vital product data by INQUIRY, mode pages
-- by bytes 2 and 3 of MODE SENSE, units by REPORT LUNS, commands by bytes 2 to 5 of REPORT SUPPORTED OPERATION CODES, and 1,
-- a self-test, or 0, none, by SEND DIAGNOSTIC; none where the code is another one, where nothing is selected so, or where
-- the count of bytes has no room in its field
abbrev pub selected_cdb : ℕ → ℕ → ℕ → Option Cdb
selected_cdb operation select allocation =
    if (operation == INQUIRY) && (nat_lt select 256 && nat_lt allocation 65536) then Some (Tell told.Page select allocation)
    else if (operation == MODE_SENSE_6) && (selects_pages select && nat_lt allocation 256)
    then Some (Tell told.ShortModes select allocation)
    else if (operation == MODE_SENSE_10) && (selects_pages select && nat_lt allocation 65536)
    then Some (Tell told.Modes select allocation)
    else if (operation == REPORT_LUNS) && nat_le select 2 then Some (Tell told.Units select allocation)
    else if (operation == MAINTENANCE_IN) && selects_operations select then Some (Tell told.Operations select allocation)
    else if (operation == SEND_DIAGNOSTIC) && nat_lt select 2 then Some (Diagnose (select == 1))
    else None

-- such a command is written; the buffer is as before where there is none
abbrev pub IsAsked : Option Cdb → ℕ → ℕ → ℕ → Result (Unit {0}) Fault → List ℕ → List ℕ → Type 0
IsAsked None lun tag allocation answer room into = IsSaid ⊥ ⊥ answer room into
IsAsked (Some cdb) lun tag allocation answer room into = IsCdbWritten lun tag allocation cdb answer room into

-- the command with this operation code on blocks, in sixteen bytes: the option is FUA of READ(16) and WRITE(16), and IMMED
-- of the others; none where the code is another one, or where the bytes of blocks that are read or written have no count
-- of 32 bits
abbrev pub long_cdb : ℕ → ℕ → ℕ → Bool → Option Cdb
long_cdb operation address blocks option =
    if (operation == READ_16) && nat_lt blocks (2 ^ 20) then Some (Read address blocks)
    else if (operation == WRITE_16) && nat_lt blocks (2 ^ 20) then Some (Write address blocks option)
    else if operation == SYNCHRONIZE_CACHE_16 then Some (Flush option)
    else if operation == PRE_FETCH_16 then Some (Prefetch address blocks)
    else None

-- its bit in byte 1
abbrev pub long_option : ℕ → ℕ
long_option operation = if (operation == READ_16) || (operation == WRITE_16) then FUA else IMMED

-- the options in byte 1, the address in bytes 2..9, the count of blocks in bytes 10..13 (SBC)
abbrev pub sixteen_bytes : ℕ → ℕ → ℕ → ℕ → List ℕ
sixteen_bytes operation options address blocks =
    (operation ∷ options ∷ []) ++ big_bytes 8 address ++ big_bytes 4 blocks ++ replicate 2 0

-- the COMMAND with these bytes, which spell this command, is put into the buffer, with the flags and the length of its data;
-- the buffer is as before where there is no command
abbrev pub IsSpelled : Option Cdb → ℕ → ℕ → List ℕ → Result (Unit {0}) Fault → List ℕ → List ℕ → Type 0
IsSpelled None lun tag bytes answer room into = IsSaid ⊥ ⊥ answer room into
IsSpelled (Some cdb) lun tag bytes answer room into =
    SpellsCdb cdb bytes
    × IsWritten (Command (flags_of (direction_of cdb)) lun tag (length_of 0 cdb) bytes) answer room into

-- a command on these blocks in sixteen bytes, with its option or without it
abbrev pub IsLong : ℕ → ℕ → ℕ → ℕ → ℕ → Bool → Result (Unit {0}) Fault → List ℕ → List ℕ → Type 0
IsLong operation lun tag address blocks option answer room into =
    IsSpelled (long_cdb operation address blocks option) lun tag
    (sixteen_bytes operation (option_byte (long_option operation) option) address blocks) answer room into

-- ## The replay protected memory block

-- the LUN of the replay protected memory block
abbrev pub rpmb_lun : ℕ
rpmb_lun = 0xC4

-- one of the four regions, and 1 to 8 frames
abbrev pub SaysRegion : ℕ → ℕ → Type 0
SaysRegion region frames = (region ≤ 3) × (1 ≤ frames) × (frames ≤ 8)

-- a SECURITY PROTOCOL OUT, which brings so many frames, or IN, which asks for them
abbrev pub IsSecurity : Bool → ℕ → ℕ → ℕ → Result (Unit {0}) Fault → List ℕ → List ℕ → Type 0
IsSecurity true tag region frames answer room into =
    IsSaid (SaysRegion region frames)
    (IsCdbWritten rpmb_lun tag (frames * 512) (SecurityOut region (frames * 512)) answer room into) answer room into
IsSecurity false tag region frames answer room into =
    IsSaid (SaysRegion region frames)
    (IsCdbWritten rpmb_lun tag (frames * 512) (SecurityIn region (frames * 512)) answer room into) answer room into

-- the frame with these fields, and zeros in place of the bytes without a meaning
abbrev pub frame_of : PlainFrame → frames.Frame
frame_of f =
    record {
      stuff = replicate 196 0;
      key_or_mac = f.key_or_mac;
      payload = f.payload;
      nonce = f.nonce;
      counter = f.write_counter;
      address = f.address;
      count = f.block_count;
      result = f.result;
      kind = f.message_type;
    }

-- its 512 bytes are put into the buffer
abbrev pub IsFrameWritten : PlainFrame → Result (Unit {0}) Fault → List ℕ → List ℕ → Type 0
IsFrameWritten f answer room into = IsPut (frame_bytes (frame_of f)) answer room into

-- the fields are those of the frame; its bytes without a meaning are not kept
pub record HasFieldsOf (f : frames.Frame) (told : PlainFrame) : Type 0 where
  pub key_or_mac : told.key_or_mac ≡ f.key_or_mac
  pub payload : told.payload ≡ f.payload
  pub nonce : told.nonce ≡ f.nonce
  pub counter : told.write_counter ≡ f.counter
  pub address : told.address ≡ f.address
  pub count : told.block_count ≡ f.count
  pub result : told.result ≡ f.result
  pub kind : told.message_type ≡ f.kind

-- the frame was read that the bytes are; or they are not 512 bytes, and the fields are as before
abbrev pub ReadsFrame : List ℕ → Result (Unit {0}) Fault → PlainFrame → PlainFrame → Type 0
ReadsFrame bytes (Ok _) before after = (length bytes ≡ 512) × HasFieldsOf (frame_in bytes) after
ReadsFrame bytes (Err f) before after = (f ≡ fault.Number) × (length bytes ≢ 512) × (after ≡ before)

-- ## Queries and short exchanges

-- the function of a query (JESD220, 10.7.8): a standard write where something is written, set, cleared or toggled, and else
-- a standard read
abbrev pub query_function : ℕ → ℕ
query_function opcode = if is_among (0x02 ∷ 0x04 ∷ 0x06 ∷ 0x07 ∷ 0x08 ∷ []) opcode then 0x81 else 0x01

-- what a query asks for, by its four numbers
abbrev pub asked_of : ℕ → ℕ → ℕ → ℕ → Asked
asked_of opcode idn index selector =
    record { opcode = opcode; idn = idn; index = index; selector = selector }

-- the message is a QUERY REQUEST of this, without data
abbrev pub IsQueryWith : ℕ → Asked → ℕ → ℕ → Message → Type 0
IsQueryWith tag asked size value (QueryRequest t function a s v «data») =
    (t ≡ tag) × (function ≡ query_function asked.opcode) × (a ≡ asked) × (s ≡ size) × (v ≡ value) × («data».items ≡ [])
IsQueryWith tag asked size value message = ⊥

abbrev pub IsQueryWritten : ℕ → Asked → ℕ → ℕ → Result (Unit {0}) Fault → List ℕ → List ℕ → Type 0
IsQueryWritten tag asked size value answer room into =
    (message : Message) × IsQueryWith tag asked size value message × IsWritten message answer room into

-- a TASK MANAGEMENT REQUEST: `meant` is the tag of the task that is meant
abbrev pub IsTaskRequest : ℕ → ℕ → ℕ → ℕ → Result (Unit {0}) Fault → List ℕ → List ℕ → Type 0
IsTaskRequest lun tag function meant answer room into = IsWritten (TaskRequest lun tag function meant) answer room into

-- a NOP OUT
abbrev pub IsNop : ℕ → Result (Unit {0}) Fault → List ℕ → List ℕ → Type 0
IsNop tag answer room into = IsWritten (NopOut tag) answer room into

-- a LINK EVENT of this kind, where there is such a kind (Messages)
abbrev pub IsLinkEvent : ℕ → Result (Unit {0}) Fault → List ℕ → List ℕ → Type 0
IsLinkEvent kind answer room into =
    IsSaid (IsEventKind kind) (IsWritten (LinkEvent kind) answer room into) answer room into
