-- What a command asks for, how much data it has and in which direction, how hosts write it, and what is left of what was
-- expected (SPC, SBC, JESD220).
use Rattle.std.specs.Prelude.{◌≡◌, ◌<◌, ◌≤◌, ◌-◌, ◌*◌, ◌/◌, ◌^◌, ℕ, min, nat_lt, Bool, List, [], ◌∷◌, ◌++◌}
use Rattle.std.specs.Prelude.{replicate, slice_index, if◌then◌else◌, Some, None, true}
use Rattle.byteorder.specs.Endian.{big_bytes}
use Rattle.ufs_spec.specs.CdbFields.{is_within, no_limit, row_of, selects_modes, spelled_cdb}
use Rattle.ufs_spec.specs.Plain.{regions}
use Rattle.ufs_spec.specs.declared.operations.TheConstants.{BYTCHK, EVPD, FUA, IMMED, INQUIRY, MAINTENANCE_IN, MODE_SENSE_10}
use Rattle.ufs_spec.specs.declared.operations.TheConstants.{MODE_SENSE_6, REPORTING, REPORT_OPERATIONS}
use Rattle.ufs_spec.specs.declared.operations.TheConstants.{PRE_FETCH_10, READ_10, READ_CAPACITY_10, READ_CAPACITY_16}
use Rattle.ufs_spec.specs.declared.operations.TheConstants.{REPORT_LUNS, REQUEST_SENSE, SECURITY_IN, SECURITY_OUT}
use Rattle.ufs_spec.specs.declared.operations.TheConstants.{SELF_TEST, SEND_DIAGNOSTIC, SERVICE_ACTION_IN_16}
use Rattle.ufs_spec.specs.declared.operations.TheConstants.{SYNCHRONIZE_CACHE_10, TEST_UNIT_READY, UNMAP, VERIFY_10}
use Rattle.ufs_spec.specs.declared.operations.TheConstants.{WRITE_10}
use Rattle.ufs_spec.specs.declared.operations.Told.{Told}
use Rattle.ufs_spec.specs.declared.operations.Told.TheVariants as told
use Rattle.ufs_spec.specs.declared.scsi.Cdb.{Cdb}
use Rattle.ufs_spec.specs.declared.scsi.Cdb.TheVariants as cdb
use Rattle.ufs_spec.specs.declared.scsi.Sense.{Sense}

-- ## What bytes spell

-- the operation code in byte 0 is one of the table's
abbrev pub IsKnownOperation : List ℕ → Type 0
IsKnownOperation bytes = row_of bytes ≡ None → ⊥

-- the sixteen bytes spell this command
abbrev pub SpellsCdb : Cdb → List ℕ → Type 0
SpellsCdb command bytes = spelled_cdb bytes ≡ Some command

-- ## How a host writes a command: in ten bytes where it may be written in six as well (SPC, SBC)

-- the options (FUA, IMMED or BYTCHK) in byte 1, the address in bytes 2..5, the count of blocks in bytes 7..8
abbrev pub ten_bytes : ℕ → ℕ → ℕ → ℕ → List ℕ
ten_bytes operation options address blocks =
    (operation ∷ options ∷ []) ++ big_bytes 4 address ++ (0 ∷ []) ++ big_bytes 2 blocks ++ replicate 7 0

-- the byte of the options, if the one that there is is set
abbrev pub option_byte : ℕ → Bool → ℕ
option_byte option is = if is then option else 0x00

-- the protocol ECh in byte 1, the region and 01h in bytes 2 and 3, the length in bytes 6..9 (JESD220, 12.4)
abbrev pub security_bytes : ℕ → ℕ → ℕ → List ℕ
security_bytes operation region length =
    (operation ∷ 0xEC ∷ region ∷ 0x01 ∷ 0 ∷ 0 ∷ []) ++ big_bytes 4 length ++ replicate 6 0

-- what is asked of the device: REQUEST SENSE has its allocation length in byte 4, INQUIRY in bytes 3..4, and REPORT LUNS
-- in bytes 6..9, behind its selection in byte 2; READ CAPACITY(16) in bytes 10..13; MODE SENSE(10) in bytes 7..8 and (6) in
-- byte 4, behind its selection in bytes 2..3; REPORT SUPPORTED OPERATION CODES in bytes 6..9, behind its selection in
-- bytes 2..5
abbrev pub asking_bytes : Told → ℕ → ℕ → List ℕ
asking_bytes told.Sense select allocation = (REQUEST_SENSE ∷ replicate 3 0) ++ (allocation ∷ replicate 11 0)
asking_bytes told.Identity select allocation = (INQUIRY ∷ replicate 2 0) ++ big_bytes 2 allocation ++ replicate 11 0
asking_bytes told.Capacity select allocation = READ_CAPACITY_10 ∷ replicate 15 0
asking_bytes told.Units select allocation =
    (REPORT_LUNS ∷ 0 ∷ select ∷ replicate 3 0) ++ big_bytes 4 allocation ++ replicate 6 0
asking_bytes told.LongCapacity select allocation =
    (SERVICE_ACTION_IN_16 ∷ READ_CAPACITY_16 ∷ replicate 8 0) ++ big_bytes 4 allocation ++ replicate 2 0
asking_bytes told.Page select allocation =
    (INQUIRY ∷ EVPD ∷ select ∷ []) ++ big_bytes 2 allocation ++ replicate 11 0
asking_bytes told.Modes select allocation =
    (MODE_SENSE_10 ∷ 0 ∷ []) ++ big_bytes 2 select ++ replicate 3 0 ++ big_bytes 2 allocation ++ replicate 7 0
asking_bytes told.ShortModes select allocation =
    (MODE_SENSE_6 ∷ 0 ∷ []) ++ big_bytes 2 select ++ allocation ∷ replicate 11 0
asking_bytes told.Operations select allocation =
    (MAINTENANCE_IN ∷ REPORT_OPERATIONS ∷ []) ++ big_bytes 4 select ++ big_bytes 4 allocation ++ replicate 6 0

-- the sixteen bytes of a command
abbrev pub cdb_bytes : Cdb → List ℕ
cdb_bytes cdb.Nothing = TEST_UNIT_READY ∷ replicate 15 0
cdb_bytes (cdb.Tell what select allocation) = asking_bytes what select allocation
cdb_bytes (cdb.Read address blocks) = ten_bytes READ_10 0x00 address blocks
cdb_bytes (cdb.Write address blocks forced) = ten_bytes WRITE_10 (option_byte FUA forced) address blocks
cdb_bytes (cdb.Flush immediate) = ten_bytes SYNCHRONIZE_CACHE_10 (option_byte IMMED immediate) 0 0
cdb_bytes (cdb.Verify address blocks compared) = ten_bytes VERIFY_10 (option_byte BYTCHK compared) address blocks
cdb_bytes (cdb.Prefetch address blocks) = ten_bytes PRE_FETCH_10 0x00 address blocks
cdb_bytes (cdb.Diagnose tests) = SEND_DIAGNOSTIC ∷ option_byte SELF_TEST tests ∷ replicate 14 0
cdb_bytes (cdb.Unmap list) = (UNMAP ∷ replicate 6 0) ++ big_bytes 2 list ++ replicate 7 0
cdb_bytes (cdb.SecurityIn region length) = security_bytes SECURITY_IN region length
cdb_bytes (cdb.SecurityOut region length) = security_bytes SECURITY_OUT region length

-- bits 6..3 of byte 2 of REPORT SUPPORTED OPERATION CODES, the first of the four that select, are zero
abbrev pub selects_operations : ℕ → Bool
selects_operations select = is_within REPORTING (slice_index (big_bytes 4 select) 0)

-- what is asked fits its fields
abbrev pub IsAsking : Told → ℕ → ℕ → Type 0
IsAsking told.Sense select allocation = (select ≡ 0) × (allocation < 2 ^ 8)
IsAsking told.Identity select allocation = (select ≡ 0) × (allocation < 2 ^ 16)
IsAsking told.Capacity select allocation = (select ≡ 0) × (allocation ≡ no_limit)
IsAsking told.Units select allocation = (select ≤ 2) × (allocation < 2 ^ 32)
IsAsking told.LongCapacity select allocation = (select ≡ 0) × (allocation < 2 ^ 32)
IsAsking told.Page select allocation = (select < 2 ^ 8) × (allocation < 2 ^ 16)
IsAsking told.Modes select allocation = (selects_modes select ≡ true) × (select < 2 ^ 16) × (allocation < 2 ^ 16)
IsAsking told.ShortModes select allocation = (selects_modes select ≡ true) × (select < 2 ^ 16) × (allocation < 2 ^ 8)
IsAsking told.Operations select allocation =
    (selects_operations select ≡ true) × (select < 2 ^ 32) × (allocation < 2 ^ 32)

-- the numbers of a command fit the fields in which a host writes it
abbrev pub IsCdb : Cdb → Type 0
IsCdb cdb.Nothing = Unit {0}
IsCdb (cdb.Tell what select allocation) = IsAsking what select allocation
IsCdb (cdb.Read address blocks) = (address < 2 ^ 32) × (blocks < 2 ^ 16)
IsCdb (cdb.Write address blocks forced) = (address < 2 ^ 32) × (blocks < 2 ^ 16)
IsCdb (cdb.Flush immediate) = Unit {0}
IsCdb (cdb.Verify address blocks compared) = (address < 2 ^ 32) × (blocks < 2 ^ 16)
IsCdb (cdb.Prefetch address blocks) = (address < 2 ^ 32) × (blocks < 2 ^ 16)
IsCdb (cdb.Diagnose tests) = Unit {0}
IsCdb (cdb.Unmap list) = list < 2 ^ 16
IsCdb (cdb.SecurityIn region length) = (region < regions) × (length < 2 ^ 32)
IsCdb (cdb.SecurityOut region length) = (region < regions) × (length < 2 ^ 32)

-- ## What a command asks for

-- how many blocks a READ, a WRITE or a VERIFY names (SBC). No other command names any that count: the range of
-- SYNCHRONIZE CACHE is not checked, since it covers the whole device
abbrev pub blocks_of : Cdb → ℕ
blocks_of (cdb.Read address blocks) = blocks
blocks_of (cdb.Write address blocks forced) = blocks
blocks_of (cdb.Verify address blocks compared) = blocks
blocks_of command = 0

-- the first address of a READ, a WRITE, a VERIFY or a PRE-FETCH (SBC); no other command names one that counts, as for
-- `blocks_of`
abbrev pub address_of : Cdb → ℕ
address_of (cdb.Read address blocks) = address
address_of (cdb.Write address blocks forced) = address
address_of (cdb.Verify address blocks compared) = address
address_of (cdb.Prefetch address blocks) = address
address_of command = 0

-- how many blocks from that address on have to be there: those that count, and those of a PRE-FETCH (SBC), which
-- may name more than a command may read
abbrev pub blocks_meant : Cdb → ℕ
blocks_meant (cdb.Prefetch address blocks) = blocks
blocks_meant command = blocks_of command

-- how many bytes of data a command has, where there are so many to tell: 4096 a block of a READ, a WRITE or a VERIFY
-- that compares (SBC); of what is told no more than the allocation length (SPC); the length of UNMAP's list (SBC); the
-- length that SECURITY PROTOCOL IN or OUT names (SPC)
abbrev pub length_of : ℕ → Cdb → ℕ
length_of told (cdb.Tell what select allocation) = min allocation told
length_of told (cdb.Read address blocks) = blocks * 4096
length_of told (cdb.Write address blocks forced) = blocks * 4096
length_of told (cdb.Verify address blocks compared) = if compared then blocks * 4096 else 0
length_of told (cdb.Unmap list) = list
length_of told (cdb.SecurityIn region length) = length
length_of told (cdb.SecurityOut region length) = length
length_of told command = 0

-- how many of so many blocks a WRITE brings whose host sends E bytes: all, or the whole blocks of those bytes (this
-- profile)
abbrev pub blocks_brought : (expected blocks : ℕ) → ℕ
blocks_brought expected blocks = min blocks (expected / 4096)

-- the command as its host, which sends E bytes, brings data for it: a WRITE of the blocks that come; any other is as its
-- CDB says
abbrev pub brought : (expected : ℕ) → Cdb → Cdb
brought expected (cdb.Write address blocks forced) = cdb.Write address (blocks_brought expected blocks) forced
brought expected command = command

-- where a command's data go: it has none, the host sends them (data-out buffer), or it
-- receives them (data-in buffer) (SAM)
pub data Direction : Type 0 where
  NoData : Direction
  ToDevice : Direction
  ToHost : Direction

-- which way the data of each command go
abbrev pub direction_of : Cdb → Direction
direction_of cdb.Nothing = NoData
direction_of (cdb.Tell what select allocation) = ToHost
direction_of (cdb.Read address blocks) = ToHost
direction_of (cdb.Write address blocks forced) = ToDevice
direction_of (cdb.Flush immediate) = NoData
direction_of (cdb.Verify address blocks compared) = if compared then ToDevice else NoData
direction_of (cdb.Prefetch address blocks) = NoData
direction_of (cdb.Diagnose tests) = NoData
direction_of (cdb.Unmap list) = ToDevice
direction_of (cdb.SecurityIn region length) = ToHost
direction_of (cdb.SecurityOut region length) = ToDevice

-- ## What is left of what was expected (JESD220, RESPONSE UPIU)

-- the flags of a RESPONSE, and its residual: how many bytes are missing or left over (JESD220, 10.7.2)
pub record Residual : Type 0 where
  pub flags : ℕ
  pub count : ℕ

-- what is told where E bytes were expected, and L were the command's or were carried: with L less than E underflow
-- (20h) and E - L, with L greater overflow (40h) and L - E, else neither
abbrev pub residual_of : ℕ → ℕ → Residual
residual_of expected length =
    if nat_lt length expected then record { flags = 0x20; count = expected - length }
    else if nat_lt expected length then record { flags = 0x40; count = length - expected }
    else record { flags = 0x00; count = 0 }

-- how many bytes of a command's data are carried where so many are expected: the lesser, at which the data are cut
abbrev pub carried : ℕ → ℕ → ℕ
carried expected length = min expected length

-- ## Sense data

-- fixed sense data of eighteen bytes (SPC, fixed format sense data): 70h, the sense key in byte 2, ten further bytes,
-- the additional sense code in byte 12 and its qualifier in byte 13
abbrev pub fixed_sense : Sense → List ℕ
fixed_sense sense =
    (0x70 ∷ 0 ∷ sense.key ∷ 0 ∷ 0 ∷ 0 ∷ 0 ∷ 0x0A ∷ [])
    ++ replicate 4 0 ++ (sense.asc ∷ sense.ascq ∷ []) ++ replicate 4 0
