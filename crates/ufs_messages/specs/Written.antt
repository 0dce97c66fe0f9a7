-- What is written into a buffer of a C program, and what is read from one.
use Rattle.std.specs.Prelude.{◌≡◌, ◌⊎◌, ◌≤◌, ℕ, ◌/◌, ◌%◌, List, ◌++◌, Option, Some, None, Result, Ok, Err}
use Rattle.std.specs.Prelude.{drop, length, map, replicate, slice_index}
use Rattle.std.specs.Int.Bits.{bit_and}
use Rattle.std.specs.Simd.{first_chunks}
use Rattle.ufs_spec.specs.Frames.{frame_in}
use Rattle.ufs_spec.specs.Messages.{AreFlags, IsMessage, Spells, spelling}
use Rattle.ufs_spec.specs.Rpmb.{frames_mac}
use Rattle.ufs_spec.specs.declared.messages.Message.{Message}
use Rattle.ufs_spec.specs.declared.messages.Message.TheVariants.{Command, DataOut, Response}
use Rattle.ufs_handle.specs.Buffers.{IsPut}
use Rattle.ufs_handle.specs.declared.fault.Fault.{Fault}
use Rattle.ufs_handle.specs.declared.fault.Fault.TheVariants as fault
use Rattle.ufs_messages.specs.declared.PlainResponse.{PlainResponse}

-- where the arguments say something, it is written; where they say nothing, the answer is Number, and the buffer is as before
abbrev pub IsSaid : Type 0 → Type 0 → Result (Unit {0}) Fault → List ℕ → List ℕ → Type 0
IsSaid Says Written answer room into =
    (Says × Written) ⊎ ((Says → ⊥) × (answer ≡ Err fault.Number) × (into ≡ room))

-- ## Messages

-- the message's one spelling is put into the buffer
abbrev pub IsWritten : Message → Result (Unit {0}) Fault → List ℕ → List ℕ → Type 0
IsWritten message answer room into = IsMessage message × IsPut (spelling message) answer room into

-- a CDB with zeros behind it, 16 bytes in all
abbrev pub padded : List ℕ → List ℕ
padded cdb = cdb ++ drop (length cdb) (replicate 16 0)

-- the flags are some of a COMMAND, and the bytes a CDB
abbrev pub SaysCommand : ℕ → List ℕ → Type 0
SaysCommand flags cdb = AreFlags flags × (length cdb ≤ 16)

abbrev pub IsCommand : ℕ → ℕ → ℕ → ℕ → List ℕ → Result (Unit {0}) Fault → List ℕ → List ℕ → Type 0
IsCommand flags lun tag expected cdb answer room into =
    IsSaid (SaysCommand flags cdb) (IsWritten (Command flags lun tag expected (padded cdb)) answer room into)
    answer room into

-- as many data as a DATA OUT has
abbrev pub SaysData : List ℕ → Type 0
SaysData sent = (1 ≤ length sent) × (length sent ≤ 4096)

-- the message is a DATA OUT with just these data
abbrev pub IsDataOutWith : ℕ → ℕ → ℕ → List ℕ → Message → Type 0
IsDataOutWith lun tag offset sent (DataOut l t o «data») =
    (l ≡ lun) × (t ≡ tag) × (o ≡ offset) × («data».items ≡ sent)
IsDataOutWith lun tag offset sent message = ⊥

-- such a message is written
abbrev pub IsDataOutWritten : ℕ → ℕ → ℕ → List ℕ → Result (Unit {0}) Fault → List ℕ → List ℕ → Type 0
IsDataOutWritten lun tag offset sent answer room into =
    (message : Message) × IsDataOutWith lun tag offset sent message × IsWritten message answer room into

abbrev pub IsDataOut : ℕ → ℕ → ℕ → List ℕ → Result (Unit {0}) Fault → List ℕ → List ℕ → Type 0
IsDataOut lun tag offset sent answer room into =
    IsSaid (SaysData sent) (IsDataOutWritten lun tag offset sent answer room into) answer room into

-- ## A RESPONSE

-- the sense data, or as many zeros
abbrev pub sense_told : Option (List ℕ) → List ℕ
sense_told None = replicate 20 0
sense_told (Some sense) = sense

-- the message is a RESPONSE
abbrev pub IsOfResponse : Message → Type 0
IsOfResponse (Response flags lun tag response status residual sense) = Unit {0}
IsOfResponse message = ⊥

-- the message is a RESPONSE with these fields
abbrev pub IsResponseWith : PlainResponse → Message → Type 0
IsResponseWith told (Response flags lun tag response status residual sense) =
    (told.tag ≡ tag) × (told.response ≡ response) × (told.status ≡ status) × (told.residual ≡ residual)
    × (told.key ≡ bit_and (slice_index (sense_told sense) 4) 0x0F) × (told.code ≡ slice_index (sense_told sense) 14)
    × (told.qualifier ≡ slice_index (sense_told sense) 15)
IsResponseWith told message = ⊥

-- the bytes are a RESPONSE with these fields
abbrev pub IsResponse : List ℕ → PlainResponse → Type 0
IsResponse bytes told = (message : Message) × Spells message bytes × IsResponseWith told message

-- the bytes are a RESPONSE, which was read; or they spell none, and the fields are as before
abbrev pub ReadsResponse : List ℕ → Result (Unit {0}) Fault → PlainResponse → PlainResponse → Type 0
ReadsResponse bytes (Ok _) before after = IsResponse bytes after
ReadsResponse bytes (Err f) before after =
    (f ≡ fault.Number) × ((message : Message) → Spells message bytes → IsOfResponse message → ⊥) × (after ≡ before)

-- ## The MAC of frames

-- a key of 32 bytes, and whole frames
abbrev pub SaysFrames : List ℕ → List ℕ → Type 0
SaysFrames key frames = (length key ≡ 32) × (512 ≤ length frames) × (length frames % 512 ≡ 0)

-- the MAC of these frames under the key is put into the buffer
abbrev pub IsMac : List ℕ → List ℕ → Result (Unit {0}) Fault → List ℕ → List ℕ → Type 0
IsMac key frames answer room into =
    IsSaid (SaysFrames key frames)
    (IsPut (frames_mac key (map frame_in (first_chunks 512 (length frames / 512) frames))) answer room into)
    answer room into
