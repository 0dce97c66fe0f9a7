use Rattle.ufs_laws.proofs.Common.{Bool, IsIdle, State, asks, false, flush, locked, mended, not_ready, read_at, refl, true}
use Rattle.ufs_laws.proofs.Common.{write_at, ℕ, ◌≡◌}
use Rattle.ufs_laws.proofs.refusals.TakenRequests.{test_unready, told, unready}
use Rattle.ufs_laws.specs.Table.{IsRefused, asks_in, short_bytes}
use Rattle.ufs_spec.specs.CdbFields.{no_limit}
use Rattle.ufs_spec.specs.declared.operations.TheConstants.{READ_6, WRITE_6}
use Rattle.ufs_spec.specs.declared.operations.Told.TheVariants as told
use Rattle.ufs_spec.specs.declared.scsi.Cdb.TheVariants as cdb
use Rattle.ufs_laws.proofs.table.commands_are_refused_before_the_mending.Goals as goal

pub returns-clause-test_unit_ready : goal.returns-clause-test_unit_ready
returns-clause-test_unit_ready c = test_unready

pub returns-clause-read : goal.returns-clause-read
returns-clause-read c = λ s tag. unready s (asks 0x40 0 tag (read_at 0 1)) (_, refl, refl)

pub returns-clause-short_read : goal.returns-clause-short_read
returns-clause-short_read c = λ s tag. unready s (asks_in 0x40 0 tag (short_bytes READ_6)) (_, refl, refl)

pub returns-clause-write : goal.returns-clause-write
returns-clause-write c = λ s tag. unready s (asks 0x20 0 tag (write_at 0)) (_, refl, refl)

pub returns-clause-short_write : goal.returns-clause-short_write
returns-clause-short_write c = λ s tag. unready s (asks_in 0x20 0 tag (short_bytes WRITE_6)) (_, refl, refl)

pub returns-clause-unmap : goal.returns-clause-unmap
returns-clause-unmap c = λ s tag. unready s (asks 0x20 0 tag (cdb.Unmap 24)) (_, refl, refl)

pub returns-clause-flush : goal.returns-clause-flush
returns-clause-flush c = λ s tag immediate. by s tag immediate
  where
    by : (s : State) (tag : ℕ) (immediate : Bool) → IsIdle s → mended s ≡ false → locked s ≡ false →
        IsRefused s (asks 0x00 0 tag (flush immediate)) not_ready
    by s tag true = unready s (asks 0x00 0 tag (flush true)) (_, refl, refl)
    by s tag false = unready s (asks 0x00 0 tag (flush false)) (_, refl, refl)

pub returns-clause-frames : goal.returns-clause-frames
returns-clause-frames c = λ s tag. unready s (asks 0x20 0xC4 tag (cdb.SecurityOut 0 512)) (_, refl, refl)

pub returns-clause-request_sense : goal.returns-clause-request_sense
returns-clause-request_sense c = λ s tag. told s (asks 0x40 0 tag (cdb.Tell told.Sense 0 18)) refl

pub returns-clause-inquiry : goal.returns-clause-inquiry
returns-clause-inquiry c = λ s tag. told s (asks 0x40 0 tag (cdb.Tell told.Identity 0 36)) refl

pub returns-clause-capacity : goal.returns-clause-capacity
returns-clause-capacity c = λ s tag. told s (asks 0x40 0 tag (cdb.Tell told.Capacity 0 no_limit)) refl

pub returns-clause-luns : goal.returns-clause-luns
returns-clause-luns c = λ s tag. told s (asks 0x40 0 tag (cdb.Tell told.Units 0 32)) refl
