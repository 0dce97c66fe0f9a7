-- The lines that bring a request to a region of the unit RPMB (JESD220, 12.4).
use Rattle.std.specs.Prelude.{◌==◌, ◌*◌, ◌&&◌, ◌||◌, if◌then◌else◌, ℕ, List, [], ◌∷◌, ◌++◌, codes, length}
use Rattle.std.specs.Prelude.{Option, Some, None}
use Rattle.std.specs.List.{flat_map, slice_index}
use Rattle.ufs_spec.specs.declared.operations.TheConstants.{SECURITY_IN, SECURITY_OUT}
use Rattle.ufs_spec.specs.Frames.{frame_bytes}
use Rattle.ufs_spec.specs.declared.scsi.Cdb.TheVariants.{SecurityIn, SecurityOut}
use Rattle.ufstool.specs.HostMessages.{asked_lines, command_spelled, data_spelled, line_of}
use Rattle.ufstool.specs.Requests.{requested}
use Rattle.ufstool.specs.declared.rpmb.RpmbRequest.{RpmbRequest}
use Rattle.ufstool.specs.declared.rpmb.RpmbRequest.TheVariants.{ProgramKey, ReadCounter, ReadData, ReadResult}
use Rattle.ufstool.specs.declared.rpmb.RpmbRequest.TheVariants.{WriteData}

-- the RPMB region that a CDB names: byte 2 of a SECURITY PROTOCOL command whose protocol is ECh, with 01h behind it
abbrev pub region_named : List ℕ → Option ℕ
region_named cdb =
    if (slice_index cdb 0 == SECURITY_IN || slice_index cdb 0 == SECURITY_OUT)
    && slice_index cdb 1 == 0xEC && slice_index cdb 3 == 0x01
    then Some (slice_index cdb 2) else None

-- SECURITY PROTOCOL OUT of so many bytes
abbrev pub out_spelled : ℕ → ℕ → ℕ → List ℕ
out_spelled task region size = command_spelled 0xC4 task (SecurityOut region size) size

-- SECURITY PROTOCOL IN of so many bytes
abbrev pub in_spelled : ℕ → ℕ → ℕ → List ℕ
in_spelled task region size = command_spelled 0xC4 task (SecurityIn region size) size

-- a reply is asked for
abbrev pub reply_line : List ℕ
reply_line = codes "reply" ++ 10 ∷ []

-- the dies do their jobs, and then a reply is asked for
abbrev pub settled_lines : List ℕ
settled_lines = codes "settle 4" ++ 10 ∷ reply_line

-- SECURITY PROTOCOL OUT, whose reply asks for the frames; the DATA OUT with them; and the reply with the status
abbrev pub sent_lines : ℕ → ℕ → List ℕ → List ℕ
sent_lines task region frames =
    asked_lines (out_spelled task region (length frames)) ++ (line_of (data_spelled 0xC4 task frames) ++ settled_lines)

-- SECURITY PROTOCOL IN, if a response is to be fetched, and the replies with it and with the status
abbrev pub fetched_lines : ℕ → ℕ → Option ℕ → List ℕ
fetched_lines task region None = []
fetched_lines task region (Some size) = asked_lines (in_spelled task region size) ++ reply_line

-- how many bytes the response has that is fetched: a frame for each block that is read, else one. A key and a write leave
-- theirs to a request for the result
abbrev pub response_size : RpmbRequest → Option ℕ
response_size (ProgramKey key) = None
response_size (WriteData key counter address blocks) = None
response_size (ReadData address count nonce) = Some (512 * count)
response_size (ReadCounter nonce) = Some 512
response_size ReadResult = Some 512

-- all lines of a request
abbrev pub request_lines : ℕ → ℕ → RpmbRequest → List ℕ
request_lines task region request =
    sent_lines task region (flat_map frame_bytes (requested request))
    ++ fetched_lines task region (response_size request)
