-- What was found when the pages of the dies were read, as `Device::from_found` takes it, and what the device makes of it.
use Rattle.std.specs.Prelude.{◌≡◌, ℕ, suc, Bool, List, Option}
use Rattle.ufs_spec.specs.Cells.{Array, Cells, Mark, Shows}
use Rattle.ufs_spec.specs.Dies.{DieState}
use Rattle.ufs_spec.specs.Disk.{Spot}
use Rattle.ufs_spec.specs.Keys.{settings_key}
use Rattle.ufs_spec.specs.Kept.{Holds, IsNewestMark}
use Rattle.ufs_spec.specs.Lives.{IsOpened, array_of}
use Rattle.ufs_spec.specs.Refusals.{State}
use Rattle.ufs_spec.specs.Sound.{CellsSound, CellsSuit, Sound}
use Rattle.ufs_spec.specs.declared.configs.Numbers.{Numbers}
use Rattle.power_loss.specs.Exchange.{IsArrayOf}
use Rattle.settings.specs.Told.{settings_in}
use Rattle.ftl_core.specs.Public.{opened}
use Rattle.recovery.specs.Found.{IsFound, newest_found}
use Rattle.recovery.specs.Scanned.{IsFoundOn}
use Rattle.recovery.specs.declared.found.Found.{Found}
use Rattle.device.specs.Describes.{Describes}
use Rattle.device.specs.Kept.{DeviceCore, idle_device, regions_kept}

-- its settings are what the content of their key says, over the cells that the pages show
abbrev pub TellsSettings : Cells → Found → Type 0
TellsSettings c f =
    CellsSound c (newest_found f) → (x : List ℕ) → Holds c (newest_found f) (suc f.kept) settings_key x →
    f.settings ≡ settings_in x

-- it was found over these pages of a device of this configuration, with these blocks bad
pub record IsFoundOver (n : Numbers) (array : Array) (bad : Spot → Bool) (f : Found) : Type 0 where
  pub inside : IsArrayOf n array
  pub found : (c : Cells) → Shows array c → IsFound n c bad f
  pub settings : (c : Cells) → Shows array c → TellsSettings c f

-- over sound pages of which this was found the device is the one that the definitions open over them
abbrev pub OpensOver : Numbers → Found → DeviceCore → Type 0
OpensOver n f d =
    (array : Array) (bad : Spot → Bool) (s : State) → IsFoundOver n array bad f → Sound array →
    IsOpened n array bad s → Describes d s

-- ## Over any dies, sound or not

-- the device has what was found: its layer is the one over it, its settings and its regions are those that were read, and
-- no task is open
abbrev pub HasFound : Numbers → Found → DeviceCore → Type 0
HasFound n f d = d ≡ idle_device (opened n f) f.settings (regions_kept f.settings n)

-- the device has what a scan of these dies finds
abbrev pub HasScanned : Numbers → List DieState → DeviceCore → Type 0
HasScanned n dies d = (f : Found) × IsFoundOn n dies f × HasFound n f d

-- the dies hold another configuration: a newest mark does not suit the numbers, or a page is of none of their keys
abbrev pub HoldAnotherConfig : Numbers → List DieState → Type 0
HoldAnotherConfig n dies =
    (c : Cells) → Shows (array_of dies) c → (m : Option Mark) × IsNewestMark c m × (CellsSuit n c m → ⊥)
