-- Commands as a host writes them, and what they ask for (SPC, SBC).
use Rattle.std.specs.Prelude.{ℕ, List, [], ◌∷◌, ◌++◌, false, replicate}
use Rattle.byteorder.specs.Endian.{big_bytes}
use Rattle.ufs_spec.specs.CdbFields.{no_limit, six_blocks}
use Rattle.ufs_spec.specs.Cdbs.{asking_bytes, cdb_bytes, option_byte, ten_bytes}
use Rattle.ufs_spec.specs.declared.operations.TheConstants.{FUA, READ_10, READ_6, WRITE_6}
use Rattle.ufs_spec.specs.declared.operations.Told.TheVariants as told
use Rattle.ufs_spec.specs.declared.scsi.Cdb.{Cdb}
use Rattle.ufs_spec.specs.declared.scsi.Cdb.TheVariants as cdb
use Rattle.ufstool.specs.declared.host_cdbs.HostCdb.{HostCdb}
use Rattle.ufstool.specs.declared.host_cdbs.HostCdb.TheVariants as host

-- what it asks for
abbrev pub meaning : HostCdb → Cdb
meaning host.TestUnitReady = cdb.Nothing
meaning (host.RequestSense allocation) = cdb.Tell told.Sense 0 allocation
meaning (host.Read6 address blocks) = cdb.Read address (six_blocks blocks)
meaning (host.Write6 address blocks) = cdb.Write address (six_blocks blocks) false
meaning (host.Inquiry allocation) = cdb.Tell told.Identity 0 allocation
meaning host.ReadCapacity10 = cdb.Tell told.Capacity 0 no_limit
meaning (host.Read10 address blocks forced) = cdb.Read address blocks
meaning (host.Write10 address blocks forced) = cdb.Write address blocks forced
meaning (host.SynchronizeCache10 immediate) = cdb.Flush immediate
meaning (host.ReportLuns select allocation) = cdb.Tell told.Units select allocation
meaning (host.InquiryPage page allocation) = cdb.Tell told.Page page allocation
meaning (host.ReadCapacity16 allocation) = cdb.Tell told.LongCapacity 0 allocation
meaning (host.ModeSense6 select allocation) = cdb.Tell told.ShortModes select allocation
meaning (host.ModeSense10 select allocation) = cdb.Tell told.Modes select allocation
meaning (host.ReportOperations select allocation) = cdb.Tell told.Operations select allocation
meaning (host.Verify10 address blocks compared) = cdb.Verify address blocks compared
meaning (host.Prefetch10 address blocks) = cdb.Prefetch address blocks
meaning (host.SendDiagnostic tests) = cdb.Diagnose tests

-- READ(6) and WRITE(6) (SBC): the address in bits 4..0 of byte 1 and in bytes 2 and 3, the blocks in byte 4
abbrev pub six_bytes : ℕ → ℕ → ℕ → List ℕ
six_bytes operation address blocks = (operation ∷ []) ++ big_bytes 3 address ++ (blocks ∷ []) ++ replicate 11 0

-- its sixteen bytes
abbrev pub host_bytes : HostCdb → List ℕ
host_bytes (host.Read6 address blocks) = six_bytes READ_6 address blocks
host_bytes (host.Write6 address blocks) = six_bytes WRITE_6 address blocks
host_bytes (host.Read10 address blocks forced) = ten_bytes READ_10 (option_byte FUA forced) address blocks
host_bytes (host.ReportLuns select allocation) = asking_bytes told.Units select allocation
host_bytes (host.ModeSense6 select allocation) = asking_bytes told.ShortModes select allocation
host_bytes (host.ModeSense10 select allocation) = asking_bytes told.Modes select allocation
host_bytes (host.ReportOperations select allocation) = asking_bytes told.Operations select allocation
host_bytes other = cdb_bytes (meaning other)
