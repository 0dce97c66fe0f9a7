-- What open tasks are by their commands: what gathers data does so for its command, and what a request for data reads
-- of the RPMB area shows the area as it is now, as long as the request is open, since only one task at a time can
-- change the area (JESD220, 12.4).
use Rattle.std.specs.Prelude.{Bool, List, None, Option, Some, [], false, length, map, slice_get, true, ℕ, ◌+◌, ◌∷◌, ◌≡◌}
use Rattle.std.specs.List.{AllByRecursion, list_any}
use Rattle.ufs_spec.specs.CdbFields.{kind_of}
use Rattle.ufs_spec.specs.Cdbs.{address_of, blocks_of}
use Rattle.ufs_spec.specs.Exchanges.{Answering, Awaiting, Comparing, Deed, Gathering}
use Rattle.ufs_spec.specs.declared.exchanges.Purpose.{Purpose}
use Rattle.ufs_spec.specs.declared.exchanges.Purpose.TheVariants.{ForFrames, ForUnmap, ForWrite}
use Rattle.ufs_spec.specs.Exchanges.{ReadBlock, ReadingArea, RpmbRequest, Sending, SendingBytes, Task}
use Rattle.ufs_spec.specs.FrameRequests.{first_page, pages_named}
use Rattle.ufs_spec.specs.Frames.{Frame}
use Rattle.ufs_spec.specs.Keys.{area_key, below, content}
use Rattle.ufs_spec.specs.Plain.{Plain}
use Rattle.ufs_spec.specs.Refusals.{State, plain_now, sends_frames}
use Rattle.ufs_spec.specs.declared.operations.Kind.TheVariants as kind
use Rattle.ufs_spec.specs.declared.scsi.Cdb.{Cdb}
use Rattle.ufs_spec.specs.declared.scsi.Cdb.TheVariants as cdb

-- ## Pages

-- the pages of a region's area that a request names by its first frame, as they are in this plain state
abbrev pub area_bodies : Plain → ℕ → Frame → List (List ℕ)
area_bodies p region f = map (λ i. content p (area_key region (first_page f + i))) (below (pages_named f))

-- the pages that are read have these bodies; a request that reads pages has a frame
abbrev pub FramesShow : Plain → ℕ → List Frame → List ReadBlock → Type 0
FramesShow p region [] pages = ⊥
FramesShow p region (f ∷ fs) pages = map (λ (page : ReadBlock). page.body) pages ≡ area_bodies p region f

-- what reads pages of the area brought frames, and its request names the pages; what has no request, as a VERIFY,
-- brings none, and reads blocks of a unit
abbrev pub PagesShow : Plain → Option Cdb → Option RpmbRequest → List ReadBlock → Type 0
PagesShow p command None pages = sends_frames command ≡ false
PagesShow p command (Some request) pages =
    (sends_frames command ≡ true) × FramesShow p request.region request.frames pages

-- ## Tasks

-- the command is a WRITE of so many blocks from this address on
abbrev pub IsWriteOf : ℕ → ℕ → Option Cdb → Type 0
IsWriteOf address blocks command =
    (c : Cdb) × (command ≡ Some c) × (address_of c ≡ address) × (blocks_of c ≡ blocks)
    × (kind_of c ≡ kind.Write)

-- what gathers so many bytes is a command that has them: a WRITE of these blocks, an UNMAP with a list of so many
-- bytes, or a SECURITY PROTOCOL OUT of so many for the region
abbrev pub GathersRightly : Purpose → ℕ → Option Cdb → Type 0
GathersRightly (ForWrite unit address blocks forced) total command = IsWriteOf address blocks command
GathersRightly (ForUnmap unit) total command = command ≡ Some (cdb.Unmap total)
GathersRightly (ForFrames region) total command = command ≡ Some (cdb.SecurityOut region total)

-- what reads the area brought frames, and the pages that it reads are as they are in this plain state
abbrev pub DeedShows : Plain → Option Cdb → ℕ → Option RpmbRequest → Deed → Type 0
DeedShows p command total request (Gathering purpose gathered asked) = GathersRightly purpose total command
DeedShows p command total request (ReadingArea pages) = PagesShow p command request pages
DeedShows p command total request (Sending blocks sent) = Unit {0}
DeedShows p command total request (SendingBytes bytes) = Unit {0}
DeedShows p command total request (Awaiting commands) = Unit {0}
DeedShows p command total request (Comparing blocks compared asked) = Unit {0}
DeedShows p command total request (Answering status carried) = Unit {0}

-- the same of a task
abbrev pub ShowsArea : Plain → Task → Type 0
ShowsArea p task = DeedShows p task.command task.length task.request task.deed

-- the task brings frames, or has brought them: it is a SECURITY PROTOCOL OUT that was not refused
abbrev pub brings_frames : Task → Bool
brings_frames task = sends_frames task.command

-- no more than one of the tasks brings frames
abbrev pub OneBrings : List Task → Type 0
OneBrings [] = Unit {0}
OneBrings (task ∷ tasks) = (brings_frames task ≡ true → list_any brings_frames tasks ≡ false) × OneBrings tasks

-- no more than one of the tasks brings frames, each that gathers data does so for its command, and each that reads the
-- area shows it as it is in this plain state
pub record AreaReadsOf (p : Plain) (tasks : List Task) : Type 0 where
  pub one : OneBrings tasks
  pub shows : AllByRecursion (ShowsArea p) tasks

-- the same of a state, as it is now
abbrev pub AreaReads : State → Type 0
AreaReads s = AreaReadsOf (plain_now s) s.tasks

-- ## For use

-- the pages are those that the first frame of a request names of the region's area: as many, each with its content in
-- this plain state
pub record ArePagesOf (p : Plain) (region : ℕ) (f : Frame) (pages : List ReadBlock) : Type 0 where
  pub bodies : map (λ (page : ReadBlock). page.body) pages ≡ area_bodies p region f
  pub count : length pages ≡ pages_named f
  pub each : (i : ℕ) (page : ReadBlock) → slice_get pages i ≡ Some page →
      page.body ≡ content p (area_key region (first_page f + i))
