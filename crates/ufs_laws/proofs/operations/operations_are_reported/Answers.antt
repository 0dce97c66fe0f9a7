use Rattle.ufs_laws.proofs.Common.{Busy, None, Numbers, Option, Request, Some, State, Status, asks, free_slots}
use Rattle.ufs_laws.proofs.Common.{invalid_field, invalid_operation, nat_lt, numbers_of, refl, refusal, ℕ, ◌≡◌}
use Rattle.ufs_laws.proofs.refusals.TakenRequests.{clear, idle_decided, needs_none, numbered, skips, untold}
use Rattle.ufs_laws.proofs.Common.{Lun, false, if◌then◌else◌, true, ◌&&◌}
use Rattle.ufs_laws.specs.Table.{protected_row}
use Rattle.ufs_spec.specs.Exchanges.{unit_attention}
use Rattle.ufs_spec.specs.Refusals.{DeviceUnit, UnitOf, has_attention}
use Rattle.ufs_spec.specs.Configs.{with_profile}
use Rattle.ufs_spec.specs.declared.operations.Told.TheVariants as told
use Rattle.ufs_spec.specs.declared.scsi.Cdb.TheVariants as cdb
use Rattle.ufs_laws.proofs.operations.operations_are_reported.Goals as goal

abbrev row : Numbers
row = with_profile protected_row 1 1

-- the request that selects this at a LUN
abbrev selects_at : (lun tag select : ℕ) → Request
selects_at lun tag select = asks 0x40 lun tag (cdb.Tell told.Operations select 464)

-- what is decided with these numbers, of a LUN without an attention
says : (s : State) (lun : Lun) (r : Request) (o rest : Option Status) →
    refusal (numbered s row) r ≡ (if has_attention (numbered s row) lun && true then Some unit_attention else rest) →
    rest ≡ o → numbers_of s ≡ row → has_attention s lun ≡ false → refusal s r ≡ o
says s lun r o rest lines e is none = untold s row lun true r o rest is (clear (has_attention s lun) none) lines e

pub returns-clause-profile_0 : goal.returns-clause-profile_0
returns-clause-profile_0 c = λ s tag h. idle_decided s (selects_at 0 tag 0x00000000) (Some invalid_operation) h refl

pub returns-clause-device : goal.returns-clause-device
returns-clause-device c = λ s tag. says s DeviceUnit (selects_at 0xD0 tag 0x00000000) (Some invalid_operation) _ refl refl

pub returns-clause-all : goal.returns-clause-all
returns-clause-all c = λ s tag.
    says s (UnitOf 0) (selects_at 0 tag 0x00000000) None _ refl
    (skips (nat_lt (free_slots (numbered s row).translation) 0) Busy None (needs_none (numbered s row)) refl)

pub returns-clause-code : goal.returns-clause-code
returns-clause-code c = λ s tag.
    says s (UnitOf 0) (selects_at 0 tag 0x01280000) None _ refl
    (skips (nat_lt (free_slots (numbered s row).translation) 0) Busy None (needs_none (numbered s row)) refl)

pub returns-clause-action : goal.returns-clause-action
returns-clause-action c = λ s tag.
    says s (UnitOf 0) (selects_at 0 tag 0x829E0010) None _ refl
    (skips (nat_lt (free_slots (numbered s row).translation) 0) Busy None (needs_none (numbered s row)) refl)

pub returns-clause-code_with_actions : goal.returns-clause-code_with_actions
returns-clause-code_with_actions c = λ s tag. says s (UnitOf 0) (selects_at 0 tag 0x019E0010) (Some invalid_field) _ refl refl

pub returns-clause-action_of_none : goal.returns-clause-action_of_none
returns-clause-action_of_none c = λ s tag. says s (UnitOf 0) (selects_at 0 tag 0x02280000) (Some invalid_field) _ refl refl

pub returns-clause-third : goal.returns-clause-third
returns-clause-third c = λ s tag. says s (UnitOf 0) (selects_at 0 tag 0x03280000) (Some invalid_field) _ refl refl
