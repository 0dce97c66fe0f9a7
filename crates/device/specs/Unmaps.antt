-- What UNMAP's list makes of the layer and of its task (SBC, UNMAP).
use Rattle.std.specs.Prelude.{◌≡◌, ℕ, ◌+◌, ◌<◌, ◌≤◌, ◌==◌, nat_lt, Bool, true, false, if◌then◌else◌, List, []}
use Rattle.std.specs.Prelude.{length, take, Option, Some, None}
use Rattle.ufs_spec.specs.Exchanges.{sense}
use Rattle.ufs_spec.specs.Keys.{data_key}
use Rattle.ufs_spec.specs.Moves.{Accept, IsAllowedMove, Move, Release, moved}
use Rattle.ufs_spec.specs.Refusals.{unit_numbers_at}
use Rattle.ufs_spec.specs.Translation.{Translation, is_locked}
use Rattle.ufs_spec.specs.declared.configs.Numbers.{Numbers}
use Rattle.ufs_spec.specs.declared.configs.UnitSpec.{UnitSpec}
use Rattle.ufs_spec.specs.declared.flash.Key.{Key}
use Rattle.ftl_core.specs.Public.{Claims, Core, group_of_blocks, with_claimed}
use Rattle.scsi_cdb.specs.Lists.{list_read}
use Rattle.scsi_cdb.specs.declared.unmap_list.UnmapList.{UnmapList}
use Rattle.scsi_cdb.specs.declared.unmap_list.UnmapList.TheVariants as said
use Rattle.task_set.specs.Tasks.{write_error}
use Rattle.task_set.specs.declared.tasks.TaskEvent.{TaskEvent}
use Rattle.task_set.specs.declared.tasks.TaskEvent.TheVariants as event
use Rattle.device.specs.Calls.{with_event}
use Rattle.device.specs.Kept.{DeviceCore, IsLayerWith}
use Rattle.device.specs.Lists.{IsOfList}
use Rattle.device.specs.declared.unmap.Unmapping.{Unmapping}
use Rattle.device.specs.declared.unmap.Unmapping.TheVariants as does

-- What an UNMAP does with its list

-- it is that blocks become zeros
abbrev pub is_unmapping : Unmapping → Bool
is_unmapping (does.Refused why) = false
is_unmapping does.Nothing = false
is_unmapping (does.Blocks key count) = true

-- so many blocks from this address on do not all lie in the unit
abbrev pub is_past : Option UnitSpec → ℕ → ℕ → Bool
is_past None address count = false
is_past (Some u) address count = nat_lt u.blocks (address + count)

-- the key of the first of so many blocks from this address on, if all of them lie in the unit
abbrev pub key_within : Numbers → ℕ → ℕ → ℕ → Option Key
key_within n unit address count =
    if is_past (unit_numbers_at n (Some unit)) address count then None else Some (data_key unit address)

-- what a right descriptor of so many blocks from this address on makes of this unit: a locked device takes no write
abbrev pub blocks_unmapped : Translation → ℕ → ℕ → ℕ → Unmapping
blocks_unmapped t unit address count =
    if is_past (unit_numbers_at t.numbers (Some unit)) address count then does.Refused (sense 0x05 0x21)
    else if count == 0 then does.Nothing
    else if is_locked t then does.Refused write_error
    else does.Blocks (data_key unit address) count

-- what an UNMAP of this unit does with a list that says this
abbrev pub unmapping_of : Translation → ℕ → UnmapList → Unmapping
unmapping_of t unit said.Malformed = does.Refused (sense 0x05 0x26)
unmapping_of t unit said.HeaderOnly = does.Nothing
unmapping_of t unit (said.Descriptor address count) = blocks_unmapped t unit address count

-- the same of its bytes
abbrev pub unmapping_in : Translation → ℕ → List ℕ → Unmapping
unmapping_in t unit list = unmapping_of t unit (list_read t.numbers list)

-- What becomes of the slots

-- the reader has given back all that it claimed
abbrev pub HasGivenBack : Core → Translation → Claims → ℕ → Type 0
HasGivenBack after t claims tag =
    IsLayerWith after (moved t (Release (length (claims tag)))) (with_claimed claims tag [])

-- the first so many of these blocks are a group, from this address on, which takes the place of the slots of all
abbrev pub first_accepted : Key → ℕ → List (List ℕ) → Move
first_accepted key count blocks = Accept (length blocks) (group_of_blocks key (take count blocks))

-- they may be accepted so
pub record MayPutZeros (t : Translation) (key : Key) (count : ℕ) (blocks : List (List ℕ)) : Type 0 where
  pub of_data : key.kind ≡ 1
  pub of_unit : key.unit ≤ 7
  pub allowed : IsAllowedMove t (first_accepted key count blocks)

-- the blocks in the first so many slots of the reader were accepted, and it has none of its slots any more
abbrev pub HasPutZeros : Core → Translation → Claims → ℕ → Key → ℕ → Type 0
HasPutZeros after t claims tag key count =
    MayPutZeros t key count (claims tag) →
    IsLayerWith after (moved t (first_accepted key count (claims tag))) (with_claimed claims tag [])

-- what its task is told of this, and the layer then
abbrev pub HasUnmapped : Core → Translation → Claims → ℕ → Unmapping → TaskEvent → Type 0
HasUnmapped after t claims tag (does.Refused why) e = (e ≡ event.DataRefused why) × HasGivenBack after t claims tag
HasUnmapped after t claims tag does.Nothing e = (e ≡ event.DataTaken) × HasGivenBack after t claims tag
HasUnmapped after t claims tag (does.Blocks key count) e =
    (e ≡ event.DataTaken) × HasPutZeros after t claims tag key count

-- the list of an UNMAP came
pub record HasListCome (before after : DeviceCore) (tag index unit : ℕ) (list : List ℕ) : Type 0 where
  pub layer : Core
  pub event : TaskEvent
  pub unmapped : (t : Translation) (claims : Claims) → IsLayerWith before.ftl t claims →
      unit < length t.numbers.units.items → IsOfList (length list) →
      HasUnmapped layer t claims tag (unmapping_in t unit list) event
  pub after_is : after ≡ record (with_event before index event) { ftl = layer }
