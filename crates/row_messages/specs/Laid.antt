-- How the messages of the worked rows are laid out (JESD220, 10.7; SBC, READ (10), WRITE (10), SYNCHRONIZE CACHE (10)
-- and UNMAP; SPC, SECURITY PROTOCOL IN and OUT).
use Rattle.std.specs.Prelude.{◌*◌, ◌==◌, ℕ, List, [], ◌∷◌, ◌++◌, min, None, replicate, if◌then◌else◌}
use Rattle.byteorder.specs.Endian.{big_bytes}
use Rattle.ufs_spec.specs.Codes.{data_out_code}
use Rattle.ufs_spec.specs.Messages.{header, transfer, zeros}
use Rattle.ufs_spec.specs.declared.messages.Message.{Message}
use Rattle.ufs_spec.specs.declared.messages.Message.TheVariants.{Command, ReadyToTransfer, Response}
use Rattle.ufs_spec.specs.declared.operations.TheConstants.{READ_10, UNMAP, WRITE_10}

-- ## Unit 0

-- the flags of a COMMAND by its operation code: a WRITE brings data, a READ fetches them, and others have none
abbrev pub flags_by : ℕ → ℕ
flags_by operation = if operation == WRITE_10 then 0x20 else if operation == READ_10 then 0x40 else 0

-- a CDB of ten bytes: operation code, bits, address, group 0, blocks and control 0; zeros up to sixteen
abbrev pub ten : ℕ → ℕ → ℕ → ℕ → List ℕ
ten operation bits address blocks =
    (operation ∷ bits ∷ []) ++ big_bytes 4 address ++ (0 ∷ []) ++ big_bytes 2 blocks ++ zeros 7

-- the COMMAND with such a CDB, which expects the bytes of so many blocks
abbrev pub command_of : ℕ → ℕ → ℕ → ℕ → ℕ → Message
command_of tag operation bits address blocks =
    Command (flags_by operation) 0 tag (blocks * 4096) (ten operation bits address blocks)

-- the header of a DATA OUT or DATA IN of one block, at this offset in the data of its command
abbrev pub block_header : ℕ → ℕ → ℕ → List ℕ
block_header code tag offset = header code 0 0 tag 0 0 0 4096 (transfer offset 4096)

-- the whole message, of a block of equal bytes
abbrev pub block_message : ℕ → ℕ → ℕ → ℕ → List ℕ
block_message code tag offset byte = block_header code tag offset ++ replicate 4096 byte

-- the COMMAND of an UNMAP whose list has one descriptor, so 24 bytes
abbrev pub unmap_of : ℕ → Message
unmap_of tag = Command 0x20 0 tag 24 (ten UNMAP 0 0 24)

-- the list: 22 bytes behind its own length, 16 of them of descriptors; address of 8 bytes, blocks of 4
abbrev pub unmap_list_of : ℕ → ℕ → List ℕ
unmap_list_of address blocks =
    big_bytes 2 22 ++ big_bytes 2 16 ++ zeros 4 ++ big_bytes 8 address ++ big_bytes 4 blocks ++ zeros 4

-- the DATA OUT of that list
abbrev pub unmap_message : ℕ → ℕ → ℕ → List ℕ
unmap_message tag address blocks =
    header data_out_code 0 0 tag 0 0 0 24 (transfer 0 24) ++ unmap_list_of address blocks

-- the READY TO TRANSFER that asks for one block
abbrev pub ready_of : ℕ → ℕ → Message
ready_of tag offset = ReadyToTransfer 0 tag offset 4096

-- the RESPONSE of this unit with the status GOOD
abbrev pub good_of : ℕ → ℕ → Message
good_of lun tag = Response 0 lun tag 0 0 0 None

-- ## The replay protected memory block

-- its LUN byte
abbrev pub rpmb : ℕ
rpmb = 0xC4

-- how many bytes so many frames have, of 8 at most
abbrev pub bytes_of : ℕ → ℕ
bytes_of frames = 512 * min frames 8

-- the COMMAND of SECURITY PROTOCOL OUT or IN: protocol ECh, region 0, its own code UFS (01h)
abbrev pub security_of : ℕ → ℕ → ℕ → ℕ → Message
security_of flags tag operation frames =
    Command flags rpmb tag (bytes_of frames)
    ((operation ∷ 0xEC ∷ 0 ∷ 1 ∷ 0 ∷ 0 ∷ []) ++ big_bytes 4 (bytes_of frames) ++ zeros 6)

-- the READY TO TRANSFER that asks for so many frames
abbrev pub frames_ready_of : ℕ → ℕ → Message
frames_ready_of tag frames = ReadyToTransfer rpmb tag 0 (bytes_of frames)

-- the header of a DATA OUT or DATA IN of so many frames
abbrev pub frames_header : ℕ → ℕ → ℕ → List ℕ
frames_header code tag frames = header code 0 rpmb tag 0 0 0 (bytes_of frames) (transfer 0 (bytes_of frames))
