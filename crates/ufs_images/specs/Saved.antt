-- How the dies of a device that a handle holds are saved and opened again.
use Rattle.std.specs.Prelude.{◌≡◌, ◌<◌, ℕ, ◌+◌, ◌*◌, List, Option, Some, None, Result, Ok, Err, length}
use Rattle.std.specs.List.{All}
use Rattle.ufs_spec.specs.Dies.{DieState, pages_of}
use Rattle.ufs_spec.specs.declared.configs.Numbers.{Numbers}
use Rattle.ufs_spec.specs.declared.flash.Page.{Page}
use Rattle.ufsim.specs.Images.{IsImage, image_bytes}
use Rattle.ufsim.specs.declared.image.ImageFault.{ImageFault}
use Rattle.ufsim.specs.declared.image.ImageFault.TheVariants as image_fault
use Rattle.ufs_handle.specs.Buffers.{IsPut}
use Rattle.ufs_handle.specs.Calls.{IsOpen, IsUnopened}
use Rattle.ufs_handle.specs.Exports.{IsWhyNot}
use Rattle.ufs_handle.specs.Kept.{HeldState}
use Rattle.ufs_handle.specs.Plain.{config_numbers, numbers_fault}
use Rattle.ufs_handle.specs.declared.fault.Fault.{Fault}
use Rattle.ufs_handle.specs.declared.fault.Fault.TheVariants as fault
use Rattle.ufs_handle.specs.declared.plain.PlainConfig.{PlainConfig}
use Rattle.ufs_handle.specs.declared.plain.PlainUnit.{PlainUnit}

-- how many bytes an image of the dies of this configuration has
abbrev pub image_length : Numbers → ℕ
image_length n = 14 + n.dies * (n.blocks * (1 + n.pages * 4192))

-- the number is that of the image of the dies of the device that a handle holds; where it holds none it is as before
abbrev pub IsLength : Option HeldState → Option (Unit {0}) → ℕ → ℕ → Type 0
IsLength None None before after = after ≡ before
IsLength (Some h) (Some _) before after = after ≡ image_length h.config
IsLength h answer before after = ⊥

-- a page of 4096 bytes and 96 spare ones, as its type has each page in memory
abbrev pub IsWhole : Page → Type 0
IsWhole page = (length page.body ≡ 4096) × (length page.spare ≡ 96)

-- each page of the die is one
abbrev pub AreWhole : DieState → Type 0
AreWhole die = (block : ℕ) → All IsWhole (pages_of die block)

-- the bytes are the image of these dies, which are of the sizes that the numbers say
abbrev pub IsImageOf : PlainConfig → List ℕ → List DieState → Type 0
IsImageOf config bytes dies = bytes ≡ image_bytes config.dies config.blocks config.pages dies

-- why bytes in memory are not read as an image, as a fault of a call. A read of such bytes does not fail, so the only other
-- reason is want of memory
abbrev pub image_fault_of : ImageFault → Fault
image_fault_of image_fault.Malformed = fault.Image
image_fault_of image_fault.File = fault.NoMemory
image_fault_of image_fault.Memory = fault.NoMemory

-- why no device of this configuration is opened over the dies of an image: the bytes are no image of dies of these sizes;
-- memory was refused; or why it is not opened over these dies
abbrev pub IsNoImage : PlainConfig → List PlainUnit → List ℕ → Fault → Type 0
IsNoImage config units bytes fault.Image = IsImage config.dies config.blocks config.pages bytes → ⊥
IsNoImage config units bytes fault.NoMemory = Unit {0}
IsNoImage config units bytes f =
    (dies : List DieState) × IsImageOf config bytes dies × IsUnopened (config_numbers config units) dies f

-- the handle held no device, the numbers are a configuration, the bytes are the image of dies, and the handle holds a device
-- of this configuration over them; or it holds what it held, and why
abbrev pub OpensImage : PlainConfig → List PlainUnit → List ℕ → Option HeldState → Result (Unit {0}) Fault → Option HeldState → Type 0
OpensImage config units bytes before (Ok _) after =
    (before ≡ None) × (numbers_fault config units ≡ None)
    × ((dies : List DieState) × IsImageOf config bytes dies × IsOpen (config_numbers config units) dies after)
OpensImage config units bytes before (Err f) after =
    (after ≡ before) × IsWhyNot before (numbers_fault config units) (IsNoImage config units bytes) f

-- the bytes of the image of the dies in memory
abbrev pub image_of : HeldState → List ℕ
image_of h = image_bytes h.config.dies h.config.blocks h.config.pages h.dies

-- why the dies are not saved in so many bytes of room: none are in memory, the image is longer, or memory was refused
abbrev pub IsUnsaved : HeldState → ℕ → Fault → Type 0
IsUnsaved h room fault.OwnDies = length h.dies ≡ 0
IsUnsaved h room fault.Room = (0 < length h.dies) × (room < length (image_of h))
IsUnsaved h room fault.NoMemory = 0 < length h.dies
IsUnsaved h room f = ⊥

-- the image of the dies in memory stands at the front of the room; or the room is as before, and why
abbrev pub IsSaved : HeldState → Result (Unit {0}) Fault → List ℕ → List ℕ → Type 0
IsSaved h (Ok done) room into = (0 < length h.dies) × IsPut (image_of h) (Ok done) room into
IsSaved h (Err f) room into = (into ≡ room) × IsUnsaved h (length room) f

-- the same of the device that a handle holds; where it holds none the room is as before
abbrev pub SavesTo : Option HeldState → Option (Result (Unit {0}) Fault) → List ℕ → List ℕ → Type 0
SavesTo None None room into = into ≡ room
SavesTo (Some h) (Some answer) room into = IsSaved h answer room into
SavesTo before answer room into = ⊥
