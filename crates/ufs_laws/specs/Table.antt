-- Requests that more than one line of the table refuses.
use Rattle.std.specs.Prelude.{ℕ, Bool, true, List, [], ◌∷◌, ◌++◌, Some, None, replicate}
use Rattle.ufs_laws.specs.Runs.{IsAnswered, unit}
use Rattle.ufs_spec.specs.CdbFields.{spelled_cdb}
use Rattle.ufs_spec.specs.Cdbs.{cdb_bytes}
use Rattle.ufs_spec.specs.Configs.{numbers_of, with_profile}
use Rattle.ufs_spec.specs.Exchanges.{response}
use Rattle.ufs_spec.specs.declared.exchanges.Status.{Status}
use Rattle.ufs_spec.specs.Machine.{Heard, Spelled}
use Rattle.ufs_spec.specs.Refusals.{Request, State}
use Rattle.ufs_spec.specs.declared.configs.Numbers.{Numbers}
use Rattle.ufs_spec.specs.declared.messages.Message.TheVariants as message
use Rattle.ufs_spec.specs.declared.operations.TheConstants.{DPO, READ_10}
use Rattle.ufs_spec.specs.declared.scsi.Cdb.{Cdb}
use Rattle.ufs_spec.specs.declared.scsi.Cdb.TheVariants as cdb

-- a request of 4096 bytes: flags, LUN, task tag, and the command that its CDB spells
abbrev pub asks : ℕ → ℕ → ℕ → Cdb → Request
asks flags lun tag c = record {
  flags = flags;
  lun = lun;
  tag = tag;
  expected = 4096;
  bytes = cdb_bytes c;
  cdb = Some c;
}

-- the same, with bytes of its own and the command that they spell
abbrev pub asks_in : ℕ → ℕ → ℕ → List ℕ → Request
asks_in flags lun tag bytes = record {
  flags = flags;
  lun = lun;
  tag = tag;
  expected = 4096;
  bytes = bytes;
  cdb = spelled_cdb bytes;
}

-- READ(6) and WRITE(6) of one block at address 0
abbrev pub short_bytes : ℕ → List ℕ
short_bytes operation = operation ∷ replicate 3 0 ++ 1 ∷ replicate 11 0

-- a request of 4096 bytes whose CDB spells no command
abbrev pub spells_none : ℕ → ℕ → ℕ → List ℕ → Request
spells_none flags lun tag bytes = record {
  flags = flags;
  lun = lun;
  tag = tag;
  expected = 4096;
  bytes = bytes;
  cdb = None;
}

-- READ of so many blocks from an address on
abbrev pub read_at : ℕ → ℕ → Cdb
read_at address blocks = cdb.Read address blocks

-- WRITE with FUA of one block at this address
abbrev pub write_at : ℕ → Cdb
write_at address = cdb.Write address 1 true

-- SYNCHRONIZE CACHE
abbrev pub flush : Bool → Cdb
flush immediate = cdb.Flush immediate

-- three units of the row of Runs: unit 1 is protected by fPowerOnWPEn, and unit 2 by fPermanentWPEn
abbrev pub protected_row : Numbers
protected_row =
    numbers_of 4 16 64 (unit 256 0 ∷ record (unit 64 1) { protect = 1 } ∷ record (unit 64 2) { protect = 2 } ∷ [])
    (1 ∷ 0 ∷ 0 ∷ 0 ∷ []) 64 4

-- the same units on a device of profile 1
abbrev pub profile_1_row : Numbers
profile_1_row = with_profile protected_row 1 1

-- READ(10) with DPO and group number 10h: one block, at this multiple of 256
abbrev pub pushed_out : ℕ → List ℕ
pushed_out high = READ_10 ∷ DPO ∷ 0 ∷ 0 ∷ high ∷ 0 ∷ 0x10 ∷ 0 ∷ 1 ∷ replicate 7 0

-- the request as the device hears it, with the command that its CDB spells or with none
abbrev pub heard_as : Request → Heard
heard_as r = Spelled (message.Command r.flags r.lun r.tag r.expected r.bytes) r.cdb

-- the request is taken, and its one reply is a RESPONSE of this status, with no data carried
abbrev pub IsRefused : State → Request → Status → Type 0
IsRefused s r status = IsAnswered s (heard_as r) (response r.lun r.tag r.expected 0 status)

-- SECURITY PROTOCOL IN of one frame from a region
abbrev pub reads_response : ℕ → ℕ → Request
reads_response tag region = asks 0x40 0xC4 tag (cdb.SecurityIn region 512)
