-- The moves of the translation layer: which may come, and what each makes of it (this profile). Each call of the
-- device is some of these moves.
use Rattle.std.specs.Prelude.{◌≡◌, ℕ, ◌+◌, ◌-◌, ◌≤◌, ◌==◌, ◌&&◌, not, Bool, true, false, if◌then◌else◌, List, [], ◌∷◌}
use Rattle.std.specs.Prelude.{◌++◌, All, filter, length, map, max, slice_get, Option, Some, None}
use Rattle.ufs_spec.specs.Cells.{Cell, Cells, GroupPage, IsCell, Mark, MarkPage, Nothing, Opens, key_of}
use Rattle.ufs_spec.specs.Configs.{command_blocks}
use Rattle.ufs_spec.specs.Disk.{Bad, BlockState, CellCrash, Disk, Erasing, Flight, Free, Programming, Reading, Stale}
use Rattle.ufs_spec.specs.Disk.{at_spot, ended, erase_failed, erased, flight_alone, program_failed, programmed}
use Rattle.ufs_spec.specs.Keys.{Group, IsBlock, IsKey, IsSettingsBody, Item}
use Rattle.ufs_spec.specs.Ledger.{Ledger, before_accepted, latest_durable, look, looked_at, page_stands, same_name}
use Rattle.ufs_spec.specs.Ledger.{settled_look}
use Rattle.ufs_spec.specs.Plain.{shape_of_numbers}
use Rattle.ufs_spec.specs.Translation.{CopyStep, MarkStep, MayTake, Mended, Mending, Pin, Plan, RepairStep, Repairing}
use Rattle.ufs_spec.specs.Translation.{Rest, Step, StepKind, Translation, Unmarked, awaited_read, free_slots}
use Rattle.ufs_spec.specs.Translation.{has_mark_number}
use Rattle.ufs_spec.specs.Translation.{has_number, is_mended, mark_ordered, name_of, rests_of, taken, turned}
use Rattle.ufs_spec.specs.declared.flash.Fence.{Fence}
use Rattle.ufs_spec.specs.declared.flash.Key.{Key}
use Rattle.ufs_spec.specs.declared.flash.Outcome.{Outcome}
use Rattle.ufs_spec.specs.declared.flash.Outcome.TheVariants as outcome
use Rattle.ufs_spec.specs.declared.flash.Page.{Page}
use Rattle.ufs_spec.specs.declared.flash.Place.{Place}
use Rattle.ufs_spec.specs.declared.flash.Tag.{Tag}
use Rattle.ufs_spec.specs.declared.layer.Looked.{Looked}
use Rattle.ufs_spec.specs.declared.layer.Name.{Name}
use Rattle.ufs_spec.specs.declared.layer.Reader.{Reader}
use Rattle.ufs_spec.specs.declared.layer.Reader.TheVariants.{ForNobody, ForRest, ForStep, ForTask}

-- Programs that ended well

-- who kept a slot whose group is durable now keeps its page
abbrev pub settled_pin : Ledger → Pin → Pin
settled_pin l pin = record pin { looked = settled_look l pin.looked }

-- each pin looks where its content is now that the frontier may have climbed
abbrev pub settled : Translation → Translation
settled t = record t { pins = map (settled_pin t.ledger) t.pins }

-- whether the step is the copy or the repair that programs the page of this name
abbrev pub is_kind_of : Name → StepKind → Bool
is_kind_of name (MarkStep number fence) = false
is_kind_of name (CopyStep other from) = same_name name other
is_kind_of name (RepairStep other from) = same_name name other

-- the step under way after a page of this name was programmed: if it is the copy or repair of that page, it is over
abbrev pub step_after : Name → Option Step → Option Step
step_after name None = None
step_after name (Some step) = if is_kind_of name step.kind then None else Some step

-- a page of a group was programmed there: it stands, the frontier climbs as far as it can, and a copy or a
-- repair that wrote it is over
abbrev pub page_written : Translation → Place → Tag → List ℕ → Translation
page_written t p tag body =
    settled
    (record t {
      disk = programmed t.numbers.pages t.disk p (GroupPage tag body);
      ledger = page_stands t.ledger (name_of tag) p;
      work = record t.work { step = step_after (name_of tag) t.work.step };
    })

-- the mending after a mark: the first mark is followed by repairs if it has a fence, and ends the mending if it has
-- none; the mark after the repairs ends it too
abbrev pub mending_after : Mending → Mending
mending_after (Unmarked None lost) = Mended
mending_after (Unmarked (Some fence) lost) = Repairing lost
mending_after (Repairing left) = Mended
mending_after Mended = Mended

-- what a block is once its plan's mark is finished: free, unless it is bad
abbrev pub freed_state : BlockState → BlockState
freed_state Bad = Bad
freed_state state = Free

-- the block of the plan, if there is one, is free, unless it is bad, and is to be erased for what is in it
abbrev pub freed : Disk → Option Plan → Disk
freed d None = d
freed d (Some plan) =
    record d {
      blocks = at_spot d.blocks plan.victim (freed_state (d.blocks plan.victim));
      vacancies = at_spot d.vacancies plan.victim Stale;
    }

-- a mark was programmed: it is the newest, the step and the plan that it ends are over, and the mending goes on
abbrev pub mark_written : Translation → Place → Mark → Translation
mark_written t p m =
    record t {
      disk = freed (programmed t.numbers.pages t.disk p (MarkPage m)) t.work.plan;
      ledger = record t.ledger { newest = Some m };
      work = record t.work { mending = mending_after t.work.mending; plan = None; step = None };
    }

-- what a program that ended well makes of the layer, by what was programmed
abbrev pub cell_written : Translation → Place → Cell → Translation
cell_written t p Nothing = record t { disk = programmed t.numbers.pages t.disk p Nothing }
cell_written t p (GroupPage tag body) = page_written t p tag body
cell_written t p (MarkPage m) = mark_written t p m

-- Programs that failed

-- in place of a failed mark a new one waits, with the same fence and the next mark number, if one is left
abbrev pub mark_again : Translation → Option Fence → Translation
mark_again t fence =
    if has_mark_number t then mark_ordered t fence else record t { work = record t.work { step = None } }

-- a program failed, and left these cells: the block is bad. A page of a group then waits again by itself, and in
-- place of a mark the next one does
abbrev pub cell_failed : Translation → Place → Cell → Cells → Translation
cell_failed t p (MarkPage m) left = mark_again (record t { disk = program_failed t.disk p left }) m.fence
cell_failed t p cell left = record t { disk = program_failed t.disk p left }

-- Reads

-- whether the pin is of this block of this task
abbrev pub is_pin_of : ℕ → ℕ → Pin → Bool
is_pin_of tag index pin = (pin.tag == tag) && (pin.index == index)

-- the pin of this block of this task is wanted from now on, or not any more; any other pin stays
abbrev pub with_wanted : ℕ → ℕ → Bool → Pin → Pin
with_wanted tag index wanted pin = if is_pin_of tag index pin then record pin { wanted = wanted } else pin

-- the content of the step under way was read
abbrev pub step_there : Option Step → Option Step
step_there None = None
step_there (Some step) = Some (record step { there = true })

-- the rests that are still owed once the read of this name ended well: not its own, and not those
-- that wait for the same read
abbrev pub rests_without : Name → List Rest → List Rest
rests_without name rests = filter (λ (rest : Rest). not (same_name (awaited_read rest) name)) rests

-- the page that was wanted was read: a task has its block, the step its content, a page of a group
-- its rest; for nobody nothing follows
abbrev pub read_right : Translation → Reader → Translation
read_right t ForNobody = t
read_right t (ForTask tag index) = record t { pins = map (with_wanted tag index false) t.pins }
read_right t ForStep = record t { work = record t.work { step = step_there t.work.step } }
read_right t (ForRest number index) =
    record t { work = record t.work { rests = rests_without (record { number = number; index = index }) t.work.rests } }

-- the read failed, or gave another page: a task is told and wants it no more, and any other read is owed again
abbrev pub read_wrong : Translation → Reader → Translation
read_wrong t (ForTask tag index) = record t { pins = map (with_wanted tag index false) t.pins }
read_wrong t reader = t

-- How a job ends

-- how a job ends, as the layer sees it
pub data Ending : Type 0 where
  -- a read that gave the page that was wanted
  ReadRight : Ending
  -- a read that failed or gave another page
  ReadWrong : Ending
  -- a program or an erase
  WentWell : Ending
  -- a program or an erase that failed, and left these cells
  WentWrong : (left : Cells) → Ending

-- the die has no job any more
abbrev pub die_idle : Translation → ℕ → Translation
die_idle t die = record t { disk = ended t.disk die }

-- what the end of a job makes of the layer; an ending that the job cannot have changes nothing
abbrev pub job_ended : Translation → ℕ → Flight → Ending → Translation
job_ended t die (Reading reader place) ReadRight = read_right (die_idle t die) reader
job_ended t die (Reading reader place) ReadWrong = read_wrong (die_idle t die) reader
job_ended t die (Programming place cell) WentWell = cell_written t place cell
job_ended t die (Programming place cell) (WentWrong left) = cell_failed t place cell left
job_ended t die (Erasing spot) WentWell = record t { disk = erased t.disk spot }
job_ended t die (Erasing spot) (WentWrong left) = record t { disk = erase_failed t.disk spot left }
job_ended t die flight ending = t

-- Which endings and which outcomes a job can have

-- whether the job is a read
abbrev pub is_read_job : Flight → Bool
is_read_job (Reading reader place) = true
is_read_job (Programming place cell) = false
is_read_job (Erasing spot) = false

-- whether the ending is one of reads
abbrev pub is_read_ending : Ending → Bool
is_read_ending ReadRight = true
is_read_ending ReadWrong = true
is_read_ending WentWell = false
is_read_ending (WentWrong left) = false

-- whether the outcome is one of reads
abbrev pub is_read_outcome : Outcome → Bool
is_read_outcome (outcome.Read page) = true
is_read_outcome outcome.ReadFailed = true
is_read_outcome outcome.Done = false
is_read_outcome outcome.Failed = false

-- whether both are true or both false
abbrev pub same_bool : Bool → Bool → Bool
same_bool a b = if a then b else not b

-- the ending is one that the job of a die can have: a read has those of reads, a program and an erase the others
abbrev pub ending_fits : Option Flight → Ending → Bool
ending_fits None ending = false
ending_fits (Some flight) ending = same_bool (is_read_job flight) (is_read_ending ending)

-- the outcome is one that the job of a die can have, likewise
abbrev pub outcome_fits : Option Flight → Outcome → Bool
outcome_fits None outcome = false
outcome_fits (Some flight) outcome = same_bool (is_read_job flight) (is_read_outcome outcome)

-- this holds of the cells that a failed program or erase left; of every other ending nothing is said
abbrev pub IfWrong : Ending → (Cells → Type 0) → Type 0
IfWrong ReadRight P = Unit {0}
IfWrong ReadWrong P = Unit {0}
IfWrong WentWell P = Unit {0}
IfWrong (WentWrong left) P = P left

-- a job that failed leaves what an interruption of only that job may
abbrev pub MayLeaveCells : Disk → ℕ → Ending → Type 0
MayLeaveCells d die ending = IfWrong ending (λ left. CellCrash d.cells (flight_alone d.flights die) left)

-- the job of a die may end so: the ending is one that it can have, and leaves what it may
abbrev pub MayEnd : Disk → ℕ → Option Flight → Ending → Type 0
MayEnd d die flight ending = (ending_fits flight ending ≡ true) × MayLeaveCells d die ending

-- How a job ends by what its die reports

-- the page opens to no page of that group with this key, whatever it records; each read is of a group's page
abbrev pub IsAnother : Page → Cell → Type 0
IsAnother page (GroupPage tag body) =
    (other : Tag) (bytes : List ℕ) → Opens page other bytes → key_of other ≡ key_of tag → other.number ≡ tag.number → ⊥
IsAnother page cell = ⊥

-- the cell that the job of a die is to read; nothing, if it is no read
abbrev pub cell_read : Cells → Option Flight → Cell
cell_read cells None = Nothing
cell_read cells (Some (Reading reader place)) = cells place
cell_read cells (Some (Programming place cell)) = Nothing
cell_read cells (Some (Erasing spot)) = Nothing

-- the outcome means the ending: a read ends right exactly if the page that it brought is the cell that is there,
-- and wrong if it failed or brought another page
abbrev pub Means : Cell → Outcome → Ending → Type 0
Means cell (outcome.Read page) ReadRight = IsCell page cell
Means cell (outcome.Read page) ReadWrong = IsAnother page cell
Means cell outcome.ReadFailed ReadWrong = Unit {0}
Means cell outcome.Done WentWell = Unit {0}
Means cell outcome.Failed (WentWrong left) = Unit {0}
Means cell outcome ending = ⊥

-- how the job ended by what its die reports: the outcome is one that the job can have, and means the ending
abbrev pub IsEndingOf : Cells → Option Flight → Outcome → Ending → Type 0
IsEndingOf cells flight outcome ending =
    (outcome_fits flight outcome ≡ true) × Means (cell_read cells flight) outcome ending

-- Moves

-- what may happen to the translation layer
pub data Move : Type 0 where
  -- a task claims slots for its data, or gives them back
  Claim : (count : ℕ) → Move
  Release : (count : ℕ) → Move
  -- a group is accepted, in place of so many claimed slots
  Accept : (claimed : ℕ) → (group : Group) → Move
  -- so many accepted commands, from the first on, are acknowledged as durable
  Acknowledge : (count : ℕ) → Move
  -- a task keeps what it looked up of a key, wants one of its pages read, or lets go of one or of all it keeps
  Keep : (key : Key) → (pin : Pin) → Move
  WantPage : (tag index : ℕ) → Move
  LetGo : (tag index : ℕ) → Move
  LetGoAll : (tag : ℕ) → Move
  -- a die is given a job; its job ends; a step of mending or collection is ordered
  GiveJob : (die : ℕ) → (flight : Flight) → Move
  EndJob : (die : ℕ) → (ending : Ending) → Move
  TakeStep : Move

-- no key is twice in a group
abbrev pub KeysDiffer : Group → Type 0
KeysDiffer g = (i j : ℕ) (a b : Item) → slice_get g i ≡ Some a → slice_get g j ≡ Some b → a.key ≡ b.key → i ≡ j

-- what a key of the device may hold: 4096 bytes, and of the settings key settings in their ranges
pub record IsItem (t : Translation) (item : Item) : Type 0 where
  pub key : IsKey (shape_of_numbers t.numbers) item.key
  pub block : IsBlock item.body
  pub settings : item.key.kind ≡ 3 → IsSettingsBody item.body

-- what may be accepted as a group: one page or more of different keys, no more than a command has blocks
pub record IsGroup (t : Translation) (g : Group) : Type 0 where
  pub some : 1 ≤ length g
  pub not_long : length g ≤ command_blocks t.numbers
  pub differ : KeysDiffer g
  pub items : All (IsItem t) g

-- what a task finds of a key: what holds its content after all groups. Until the device is mended the groups are repairs,
-- which have no slots: then it is the page at the frontier, which has the same content
abbrev pub look_now : Translation → Key → Looked
look_now t k =
    if is_mended t.work.mending then look t.ledger k else looked_at t.ledger (latest_durable t.ledger k)

-- when a move may come. No more slots are claimed than are free, or given back than are claimed. A group comes only
-- once the device is mended, with a number left, and into slots that were claimed. What is acknowledged is at or
-- under the frontier. What a task keeps is what a look finds now. A job is one that the die may be given, and ends
-- as it may. All else may come at any time
abbrev pub IsAllowedMove : Translation → Move → Type 0
IsAllowedMove t (Claim count) = count ≤ free_slots t
IsAllowedMove t (Release count) = count ≤ t.claims
IsAllowedMove t (Accept claimed g) =
    (is_mended t.work.mending ≡ true) × (has_number t ≡ true) × (length g ≤ claimed) × (claimed ≤ t.claims)
    × IsGroup t g
IsAllowedMove t (Acknowledge count) = before_accepted t.ledger + count ≤ t.ledger.frontier
IsAllowedMove t (Keep key pin) = IsKey (shape_of_numbers t.numbers) key × (pin.looked ≡ look_now t key)
IsAllowedMove t (GiveJob die flight) = MayTake t die (Some flight)
IsAllowedMove t (EndJob die ending) = MayEnd t.disk die (t.disk.flights die) ending
IsAllowedMove t (WantPage tag index) = Unit {0}
IsAllowedMove t (LetGo tag index) = Unit {0}
IsAllowedMove t (LetGoAll tag) = Unit {0}
IsAllowedMove t TakeStep = Unit {0}

-- whether the reader is this block of this task
abbrev pub is_for : ℕ → ℕ → Reader → Bool
is_for tag index (ForTask other i) = (other == tag) && (i == index)
is_for tag index reader = false

-- whether the reader is a block of this task
abbrev pub is_for_task : ℕ → Reader → Bool
is_for_task tag (ForTask other i) = other == tag
is_for_task tag reader = false

-- the job of a die once such a reader is gone: its read goes on, for nobody
abbrev pub without_reader : (Reader → Bool) → Option Flight → Option Flight
without_reader is (Some (Reading reader place)) = Some (Reading (if is reader then ForNobody else reader) place)
without_reader is flight = flight

-- a task lets go of these pins, and a read that a die does for it is for nobody from then on
abbrev pub let_go : Translation → (Pin → Bool) → (Reader → Bool) → Translation
let_go t of_pin of_reader =
    record t {
      disk = record t.disk { flights = λ die. without_reader of_reader (t.disk.flights die) };
      pins = filter (λ pin. not (of_pin pin)) t.pins;
    }

-- the end of the job of a die, if it has one
abbrev pub end_flight : Translation → ℕ → Option Flight → Ending → Translation
end_flight t die None ending = t
end_flight t die (Some flight) ending = job_ended t die flight ending

-- what a move makes of the layer. An accepted group comes after all others, and its area pages wait for their rests
abbrev pub moved : Translation → Move → Translation
moved t (Claim count) = record t { claims = t.claims + count }
moved t (Release count) = record t { claims = t.claims - count }
moved t (Accept claimed g) =
    record t {
      ledger = record t.ledger { groups = t.ledger.groups ++ g ∷ [] };
      work = record t.work { rests = t.work.rests ++ rests_of t g };
      claims = t.claims - claimed;
    }
moved t (Acknowledge count) = record t { ledger = record t.ledger { held = max t.ledger.held count } }
moved t (Keep key pin) = record t { pins = t.pins ++ pin ∷ [] }
moved t (WantPage tag index) = record t { pins = map (with_wanted tag index true) t.pins }
moved t (LetGo tag index) = let_go t (is_pin_of tag index) (is_for tag index)
moved t (LetGoAll tag) = let_go t (λ pin. pin.tag == tag) (is_for_task tag)
moved t (GiveJob die flight) = taken t die flight
moved t (EndJob die ending) = end_flight t die (t.disk.flights die) ending
moved t TakeStep = turned t
