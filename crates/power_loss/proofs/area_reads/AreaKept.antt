-- What a request for data reads shows the area still, where its task goes on, and where a command is accepted that
-- names no region.
use Rattle.ufs_spec.specs.Exchanges.{Comparing}
use Rattle.power_loss.proofs.Common.{◌≡◌, ℕ, zero, suc, ◌+◌, ◌==◌, Bool, true, false, List, [], ◌∷◌, map, Option, Some}
use Rattle.power_loss.proofs.Common.{None, refl, sym, ap, ◌∙◌, subst, if◌then◌else◌, slice_get, slice_index_or}
use Rattle.power_loss.proofs.Common.{AllByRecursion, Plain, apply, below, none-some, same_Some}
use Rattle.power_loss.proofs.MachineWords.{Answering, Awaiting, Cdb, Command, Deed, ForFrames, ForUnmap, ForWrite}
use Rattle.power_loss.proofs.MachineWords.{Gathering, Purpose, ReadBlock, ReadState, ReadingArea, RpmbRequest, Sending}
use Rattle.power_loss.proofs.MachineWords.{SendingBytes, State, Task, Write, accepts, plain_now, task_filled}
use Rattle.power_loss.proofs.MachineWords.{task_locked, task_read}
use Rattle.std.proofs.lemmas.List.Sums.{fold-append}
use Rattle.ufs_spec.specs.Commands.{RpmbWrite, SetBoot, SetKey, SetPermanent, Zero}
use Rattle.ufs_spec.specs.Exchanges.{filled}
use Rattle.ufs_spec.specs.FrameRequests.{first_page, pages_named}
use Rattle.ufs_spec.specs.Frames.{Frame}
use Rattle.ufs_spec.specs.Keys.{area_page}
use Rattle.ufs_spec.specs.Machine.{deed_after, with_block}
use Rattle.ufs_spec.specs.Plain.{Region, empty_region}
use Rattle.ufs_spec.specs.Queries.{Query, sets_permanent, setting_of, writes_boot}
use Rattle.ufs_laws.proofs.exchanges.DeedLaws.{IsDeedLaw, filled_keeps, goes, locks, read_keeps, reads}
use Rattle.ufs_laws.proofs.walk.WaysOfData.{IsAccepted, IsAcceptedDeed}
use Rattle.power_loss.proofs.open_tasks.TaggedLists.{each_weaker}
use Rattle.power_loss.specs.AreaReads.{DeedShows, FramesShow, PagesShow, ShowsArea, area_bodies}

-- ## Regions that stay

abbrev bodies_of : List Region → ℕ → Frame → List (List ℕ)
bodies_of regions region f =
    map (λ i. area_page (first_page f + i) (slice_index_or regions region empty_region).area) (below (pages_named f))

bodies_same : (p q : Plain) (region : ℕ) (f : Frame) → p.regions ≡ q.regions →
    area_bodies p region f ≡ area_bodies q region f
bodies_same p q region f same = ap (λ (regions : List Region). bodies_of regions region f) same

frames_same : (p q : Plain) (region : ℕ) (frames : List Frame) (pages : List ReadBlock) → p.regions ≡ q.regions →
    FramesShow p region frames pages → FramesShow q region frames pages
frames_same p q region [] pages same h = h
frames_same p q region (f ∷ fs) pages same h = h ∙ bodies_same p q region f same

pages_same : (p q : Plain) (command : Option Cdb) (request : Option RpmbRequest) (pages : List ReadBlock) →
    p.regions ≡ q.regions → PagesShow p command request pages → PagesShow q command request pages
pages_same p q command None pages same h = h
pages_same p q command (Some request) pages same h =
    (h.0, frames_same p q request.region request.frames pages same h.1)

deed_same : (p q : Plain) (command : Option Cdb) (total : ℕ) (request : Option RpmbRequest) (deed : Deed) →
    p.regions ≡ q.regions →
    DeedShows p command total request deed → DeedShows q command total request deed
deed_same p q command total request (ReadingArea pages) same h = pages_same p q command request pages same h
deed_same p q command total request (Gathering purpose gathered asked) same h = h
deed_same p q command total request (Sending blocks sent) same h = h
deed_same p q command total request (SendingBytes bytes) same h = h
deed_same p q command total request (Awaiting commands) same h = h
deed_same p q command total request (Comparing blocks compared asked) same h = h
deed_same p q command total request (Answering status carried) same h = h

pub each_same : (p q : Plain) (tasks : List Task) → p.regions ≡ q.regions → AllByRecursion (ShowsArea p) tasks →
    AllByRecursion (ShowsArea q) tasks
each_same p q tasks same = each_weaker (ShowsArea p) (ShowsArea q)
    (λ task h. deed_same p q task.command task.length task.request task.deed same h) tasks

-- ## Commands that name no region

abbrev pub NamesNone : Command → Type 0
NamesNone (Write unit address blocks) = Unit {0}
NamesNone (Zero unit address count) = Unit {0}
NamesNone (SetKey number bytes) = ⊥
NamesNone (RpmbWrite number address bytes) = ⊥
NamesNone (SetBoot boot) = Unit {0}
NamesNone SetPermanent = Unit {0}

regions_stay : (p : Plain) (c : Command) → NamesNone c → p.regions ≡ (apply p c).regions
regions_stay p (Write unit address blocks) h = refl
regions_stay p (Zero unit address count) h = refl
regions_stay p (SetKey number bytes) h = absurd h
regions_stay p (RpmbWrite number address bytes) h = absurd h
regions_stay p (SetBoot boot) h = refl
regions_stay p SetPermanent h = refl

-- the regions are those of before
pub accepts_same : (s : State) (c : Command) (claimed : ℕ) → NamesNone c →
    (plain_now s).regions ≡ (plain_now (accepts s c claimed)).regions
accepts_same s c claimed none =
    regions_stay (plain_now s) c none
    ∙ ap (λ (p : Plain). p.regions) (sym (fold-append apply s.base s.accepted (c ∷ [])))

-- a setting of a query names none
pub setting_none : (q : Query) (c : Command) → setting_of q ≡ Some c → NamesNone c
setting_none q c e = by (writes_boot q) (sets_permanent q) e
  where
    by : (a b : Bool) →
        (if a then Some (SetBoot q.value) else if b then Some SetPermanent else None) ≡ Some c → NamesNone c
    by true b k = subst NamesNone (same_Some (SetBoot q.value) c k) tt
    by false true k = subst NamesNone (same_Some SetPermanent c k) tt
    by false false k = absurd (none-some c k)

-- and so does what a WRITE or an UNMAP brought
pub accepted_none : (s : State) (task : Task) (purpose : Purpose) (bytes : List ℕ) (c : Command) (claimed : ℕ)
    (deed : Deed) → IsAccepted s task purpose bytes c claimed deed → NamesNone c
accepted_none s task (ForWrite unit address blocks forced) bytes c claimed deed is = subst NamesNone (sym is.0) tt
accepted_none s task (ForUnmap unit) bytes c claimed deed is = subst NamesNone (sym is.0) tt
accepted_none s task (ForFrames region) bytes c claimed deed is = absurd is

-- which then is answered, or waits
pub accepted_shows : (p : Plain) (command : Option Cdb) (total : ℕ) (request : Option RpmbRequest) (purpose : Purpose)
    (task : Task) (deed : Deed) → IsAcceptedDeed purpose task deed → DeedShows p command total request deed
accepted_shows p command total request purpose task (Answering status carried) is = tt
accepted_shows p command total request purpose task (Awaiting commands) is = tt
accepted_shows p command total request purpose task (Gathering other gathered asked) is = absurd is
accepted_shows p command total request purpose task (Sending blocks sent) is = absurd is
accepted_shows p command total request purpose task (SendingBytes bytes) is = absurd is
accepted_shows p command total request purpose task (ReadingArea pages) is = absurd is
accepted_shows p command total request purpose task (Comparing blocks compared asked) is = absurd is

-- ## Pages that are read

abbrev bodies : List ReadBlock → List (List ℕ)
bodies pages = map (λ (page : ReadBlock). page.body) pages

-- one page more is read: its content stays
bodies_read : (pages : List ReadBlock) (index : ℕ) (state : ReadState) →
    bodies (with_block pages index state (slice_get pages index)) ≡ bodies pages
bodies_read [] index state = refl
bodies_read (x ∷ xs) zero state = refl
bodies_read (x ∷ xs) (suc index) state = later (slice_get xs index) (bodies_read xs index state)
  where
    later : (o : Option ReadBlock) → bodies (with_block xs index state o) ≡ bodies xs →
        bodies (with_block (x ∷ xs) (suc index) state o) ≡ x.body ∷ bodies xs
    later None rest = refl
    later (Some block) rest = ap (λ (bs : List (List ℕ)). x.body ∷ bs) rest

pages_read : (p : Plain) (command : Option Cdb) (request : Option RpmbRequest) (pages : List ReadBlock) (index : ℕ)
    (state : ReadState) → PagesShow p command request pages →
    PagesShow p command request (with_block pages index state (slice_get pages index))
pages_read p command None pages index state h = h
pages_read p command (Some request) pages index state h = (h.0, frames_read request.frames h.1)
  where
    frames_read : (frames : List Frame) → FramesShow p request.region frames pages →
        FramesShow p request.region frames (with_block pages index state (slice_get pages index))
    frames_read [] k = k
    frames_read (f ∷ fs) k = bodies_read pages index state ∙ k

-- ## Tasks that go on

shows_law : (p : Plain) (task : Task) → IsDeedLaw (DeedShows p task.command task.length task.request) task
shows_law p task = record {
  asked = λ purpose gathered was d. d;
  next = λ blocks sent more d. tt;
  sent = tt;
  fails = tt;
  read = λ blocks sent index state d. tt;
  page = λ pages index state d. pages_read p task.command task.request pages index state d;
  compares = λ blocks compared was d. tt;
  found = λ blocks compared was index state d. tt;
}

pub goes_on : (p : Plain) (task : Task) (deed : Deed) → deed_after task task.deed ≡ Some deed → ShowsArea p task →
    DeedShows p task.command task.length task.request deed
goes_on p task deed e h =
    goes (DeedShows p task.command task.length task.request) task (shows_law p task) task.deed deed h e

pub locked_shows : (p : Plain) (s : State) (task : Task) → ShowsArea p task → ShowsArea p (task_locked s task)
locked_shows p s task h =
    locks (DeedShows p task.command task.length task.request) task (shows_law p task) s task.deed h

pub read_shows : (p : Plain) (tag index : ℕ) (state : ReadState) (task : Task) → ShowsArea p task →
    ShowsArea p (task_read tag index state task)
read_shows p tag index state task h = read_keeps (ShowsArea p) tag index state task
    (reads (DeedShows p task.command task.length task.request) task (shows_law p task) index state task.deed h) h

-- a register that is filled leaves the frames of its request
filled_deed : (p : Plain) (command : Option Cdb) (total : ℕ) (request : Option RpmbRequest) (deed : Deed) →
    DeedShows p command total request deed → DeedShows p command total (filled request) deed
filled_deed p command total None deed h = h
filled_deed p command total (Some request) (ReadingArea pages) h = h
filled_deed p command total (Some request) (Gathering purpose gathered asked) h = h
filled_deed p command total (Some request) (Sending blocks sent) h = h
filled_deed p command total (Some request) (SendingBytes bytes) h = h
filled_deed p command total (Some request) (Awaiting commands) h = h
filled_deed p command total (Some request) (Comparing blocks compared asked) h = h
filled_deed p command total (Some request) (Answering status carried) h = h

pub filled_shows : (p : Plain) (s : State) (task : Task) → ShowsArea p task → ShowsArea p (task_filled s task)
filled_shows p s task h =
    filled_keeps (ShowsArea p) s task (filled_deed p task.command task.length task.request task.deed h) h
