-- The rule of the table: there is one legal list of steps that leads to the core and its dies, of which each seat knows
-- a beginning.
use Rattle.std.specs.Prelude.{◌≡◌, ◌≢◌, ◌⊎◌, ℕ, ◌+◌, ◌-◌, ◌<◌, ◌≤◌, true, false, cond, nat_le, List, [], ◌∷◌, ◌++◌}
use Rattle.std.specs.Prelude.{length, map, replicate, slice_get, slice_index, slice_set, Option, Some, None}
use mathlib.Core.Option as maybe
use lib.ListN.{get_elem?}
use Rattle.atomic_table.specs.Table.{Me}
use Rattle.atomic_table.specs.Table as table
use Rattle.atomic_table.specs.declared.shared.Seat.{Seat}
use Rattle.atomic_table.specs.Seated.{TableId}
use Rattle.ufs_spec.specs.Dies as dies
use Rattle.ufs_spec.specs.Dies.{CanDo, DieState}
use Rattle.ufs_spec.specs.Lives.{Fit, IsOpened, array_of, bad_of}
use Rattle.ufs_spec.specs.Refusals.{State}
use Rattle.ufs_spec.specs.Sound.{Sound, Suits}
use Rattle.ufs_spec.specs.declared.configs.Numbers.{Numbers}
use Rattle.ufs_spec.specs.declared.flash.Job.{Job}
use Rattle.ufs_spec.specs.declared.flash.Outcome.{Outcome}
use Rattle.device.specs.Describes.{Describes}
use Rattle.device.specs.Kept.{DeviceCore, WorldState}
use Rattle.device.specs.Worlds.{Fits, die_at, job_at}
use Rattle.lanes.specs.declared.view.Entry.{Entry}
use Rattle.lanes.specs.declared.view.LaneView.{LaneView}
use Rattle.lanes.specs.declared.view.Made.{Made}
use Rattle.lanes.specs.declared.view.Opening.{Opening}
use Rattle.lanes.specs.declared.view.View.{View}
use Rattle.lanes.specs.Legal.{Begins, Follows, Legal, mine, step_by}

-- The opening

-- the device with its dies, before any step
abbrev pub world_over : {D : Type 0} → (D → DieState) → DeviceCore → List D → WorldState
world_over state core dies = record {
  core = core;
  config = core.ftl.numbers;
  dies = map state dies;
  jobs = replicate (length (map state dies)) None;
  steps = 0;
  is_over = false;
}

-- the device with the dies of its opening, before any step
abbrev pub opened_world : {D : Type 0} → (D → DieState) → Opening D → WorldState
opened_world state opening = world_over state opening.device.value opening.dies.value.items

-- a state that a device is opened in over these dies
abbrev pub IsStartOver : {D : Type 0} → (D → DieState) → DeviceCore → List D → State → Type 0
IsStartOver state core dies start = IsOpened core.ftl.numbers (array_of (map state dies)) (bad_of (map state dies))
    start

-- a state that the device of this opening may begin in
abbrev pub IsStart : {D : Type 0} → (D → DieState) → Opening D → State → Type 0
IsStart state opening start = IsStartOver state opening.device.value opening.dies.value.items start

-- the device is as its opening over these dies gave it, they fit its configuration, and their pages are sound
pub record IsOpeningOf {D : Type 0} (state : D → DieState) (core : DeviceCore) (dies : List D) : Type 0 where
  pub config : Numbers
  pub fit : Fit config (map state dies)
  pub sound : Sound (array_of (map state dies))
  pub suits : Suits config (array_of (map state dies))
  pub described : (start : State) → IsOpened config (array_of (map state dies)) (bad_of (map state dies)) start →
      Describes core start

-- what the table was opened with is a device as its opening over these dies gave it
abbrev pub IsOpening : {D : Type 0} → (D → DieState) → Opening D → Type 0
IsOpening state opening = IsOpeningOf state opening.device.value opening.dies.value.items

-- the list is legal from each state that the device may begin in
abbrev pub IsLegal : {D : Type 0} → (D → DieState) → Opening D → List Entry → Type 0
IsLegal state opening list = (start : State) → IsStart state opening start → (now : State) × Legal start list now

-- the list is legal by the opening that a seat knows; a seat that knows no opening can say so of no list
abbrev pub IsLegalIf : {D : Type 0} → (D → DieState) → Option (Opening D) → List Entry → Type 0
IsLegalIf state None list = ⊥
IsLegalIf state (Some opening) list = IsLegal state opening list

-- Dies

-- the die and its job in flight are what the lane knows
pub record Agrees {D : Type 0} (state : D → DieState) (w : WorldState) (l : LaneView D) : Type 0 where
  pub there : l.die < length w.dies
  pub has_job : l.die < length w.jobs
  pub content : die_at w.dies l.die ≡ state l.content
  pub job : job_at w.jobs l.die ≡ l.job

-- what a step makes of the world: the core, and the die of the lane that made it
abbrev pub placed : {D : Type 0} → (D → DieState) → WorldState → DeviceCore → Option (LaneView D) → WorldState
placed state w core None = record w { core = core }
placed state w core (Some l) = record w {
  core = core;
  dies = slice_set w.dies l.die (state l.content);
  jobs =
      slice_set w.jobs l.die l.job;
}

-- the lane has the same die before and after
abbrev pub SameDie : {D : Type 0} → Option (LaneView D) → Option (LaneView D) → Type 0
SameDie None None = Unit {0}
SameDie (Some l) (Some m) = m.die ≡ l.die
SameDie before after = ⊥

-- if the seat has a lane, the lane's die and its job in flight are what the lane knows
abbrev pub AgreesIf : {D : Type 0} → (D → DieState) → WorldState → Option (LaneView D) → Type 0
AgreesIf state w None = Unit {0}
AgreesIf state w (Some l) = Agrees state w l

-- the job that a lane has may be asked of its die
abbrev pub CanWork : {D : Type 0} → (D → DieState) → Option (LaneView D) → Type 0
CanWork state None = Unit {0}
CanWork state (Some l) = (j : Job) → l.job ≡ Some j → CanDo (state l.content) j

-- Seats

-- the list that the seat has seen begins with each of the two that it compares, and has no step of it beyond the first
pub record Compared {D : Type 0} (v : View D) : Type 0 where
  pub before : Begins v.before v.seen
  pub other : Begins v.other v.seen
  pub same : mine v.by v.seen ≡ mine v.by v.before

-- what the rule says of one seat
pub record Knows {D : Type 0} (state : D →
    DieState) (opening : Opening D) (list : List Entry) (w : WorldState) (v : View D) : Type 0 where
  pub opened : v.steps ≡ true → v.opening ≡ Some opening
  pub begins : Begins v.seen list
  pub own : v.steps ≡ true → mine v.by list ≡ mine v.by v.seen
  pub agrees : AgreesIf state w v.lane
  pub compared : v.looks ≡ true → Compared v

-- what it says of two: no two seats have one number or one die
pub record Apart {D : Type 0} (u v : View D) : Type 0 where
  pub numbers : u.steps ≡ true → v.steps ≡ true → u.by ≢ v.by
  pub dies : (l m : LaneView D) → u.lane ≡ Some l → v.lane ≡ Some m → l.die ≢ m.die

-- no seat has the core
abbrev pub NoneHolds : {D : Type 0} → List (View D) → Type 0
NoneHolds {D} views = (k : ℕ) (v : View D) → get_elem? views k ≡ maybe.some v → v.held ≡ None

-- the core is in its slot
pub record AtHome {D : Type 0} (s : table.State DeviceCore (View D)) (core : DeviceCore) : Type 0 where
  pub word : slice_index s.words 0 ≡ 0
  pub there : get_elem? s.homes 0 ≡ maybe.some (maybe.some core)
  pub none : NoneHolds s.views

-- one seat has the core, which is as that seat's view has it, and has seen the whole list
pub record IsOut {D : Type 0} (s : table.State DeviceCore (View D)) (list : List Entry) (core : DeviceCore) : Type 0
  where
    pub word : slice_index s.words 0 ≡ 1
    pub holder : ℕ
    pub view : View D
    pub there : get_elem? s.views holder ≡ maybe.some view
    pub steps : view.steps ≡ true
    pub held : view.held ≡ Some core
    pub all_seen : view.seen ≡ list
    pub others : (k : ℕ) (v : View D) → get_elem? s.views k ≡ maybe.some v → k ≢ holder → v.held ≡ None

-- the first seat deals the others: numbers and dies that were not dealt have made no step and have no job
pub record Deals {D : Type 0} (state : D →
    DieState) (opening : Opening D) (views : List (View D)) (list : List Entry) (w : WorldState) : Type 0 where
  pub dealer : View D
  pub there : get_elem? views 0 ≡ maybe.some dealer
  pub no_steps : dealer.steps ≡ false
  pub opened : dealer.opening ≡ Some opening
  pub below : (k : ℕ) (v : View D) → get_elem? views k ≡ maybe.some v → v.steps ≡ true → v.by < dealer.numbers
  pub unused : (n : ℕ) → dealer.numbers ≤ n → mine n list ≡ []
  pub dies_above : (k : ℕ) (v : View D) (l : LaneView D) → get_elem? views k ≡ maybe.some v → v.lane ≡ Some l →
      dealer.lanes ≤ l.die
  pub undealt : (n : ℕ) → n < dealer.lanes → (die_at w.dies n ≡ die_at (map state opening.dies.value.items) n)
      × (job_at w.jobs n ≡ None)

-- the rule: there is one list, legal from each beginning, that leads to the core and its dies as they are. Each seat
-- knows a beginning of it, and the core is in its slot or with one seat that has seen it all
pub record Kept {D : Type 0} (state : D →
    DieState) (opening : Opening D) (s : table.State DeviceCore (View D)) : Type 0 where
  pub list : List Entry
  pub world : WorldState
  pub one_word : length s.words ≡ 1
  pub opens : IsOpening state opening
  pub leads : (start : State) → IsStart state opening start → (now : State) × Legal start list now × Fits world now
  pub as_many : (length world.dies ≡ length opening.dies.value.items)
      × (length world.jobs ≡ length opening.dies.value.items)
  pub seats : (k : ℕ) (v : View D) → get_elem? s.views k ≡ maybe.some v → Knows state opening list world v
  pub apart : (j k : ℕ) (u v : View D) → get_elem? s.views j ≡ maybe.some u → get_elem? s.views k ≡ maybe.some v →
      j ≢ k → Apart u v
  pub deals : Deals state opening s.views list world
  pub place : AtHome s world.core ⊎ IsOut s list world.core

-- the seat that deals the others
abbrev pub first_view : {D : Type 0} → Opening D → View D
first_view opening = record {
  by = 0;
  steps = false;
  opening = Some opening;
  seen = [];
  held = None;
  lane = None;
  numbers = 0;
  lanes = length opening.dies.value.items;
  looks = false;
  before = [];
  other = [];
}

-- Steps at a seat

-- what a caller has at its seat: its view, and the core while the seat has it
abbrev pub Mine : Type 0 → Type 0
Mine D = Me DeviceCore (View D)

-- the seat is at this table, which has one word and one slot
abbrev pub IsSeatOf : {D : Type 0} → TableId → Seat DeviceCore (View D) → Type 0
IsSeatOf id seat = (seat.table_id ≡ id) × (id.words ≡ 1) × (id.slots ≡ 1)

-- the seat may make steps and has no core
abbrev pub Rests : {D : Type 0} → Mine D → Type 0
Rests m = (m.0.steps ≡ true) × (m.0.held ≡ None) × (m.1 ≡ [])

-- the seat took the core before, and has it as it now is
abbrev pub IsAt : {D : Type 0} → Mine D → (DeviceCore → DeviceCore → Type 0) → Type 0
IsAt m relates = (before after : DeviceCore) × (m.0.held ≡ Some before) × (m.1 ≡ (0, after) ∷ []) × relates before after

-- the seat has seen the whole list, and has the core
abbrev pub HasTaken : {D : Type 0} → Mine D → Mine D → Type 0
HasTaken m n =
    (core : DeviceCore) × (more : List Entry)
    × (n ≡ (record m.0 { seen = m.0.seen ++ more; held = Some core; looks = false }, (0, core) ∷ []))
    × (mine m.0.by (m.0.seen ++ more) ≡ mine m.0.by m.0.seen)

-- the core was out: the rule held of a table with this view at one of its seats, and another seat had the core
pub record WasOut {D : Type 0} (state : D → DieState) (v : View D) : Type 0 where
  pub opening : Opening D
  pub opened : v.opening ≡ Some opening
  pub found : table.State DeviceCore (View D)
  pub kept : Kept state opening found
  pub seat : ℕ
  pub there : get_elem? found.views seat ≡ maybe.some v
  pub out : IsOut found kept.list kept.world.core

-- what an attempt at the core gives: it was in its slot, and the seat has it; or it was out, and nothing changes
abbrev pub Seized : {D : Type 0} → (D → DieState) → Mine D → ℕ → Mine D → Type 0
Seized state m found n = (found ≡ 0 → HasTaken m n) × (found ≢ 0 → (n ≡ m) × WasOut state m.0)

-- the step makes the second core of the first, and what the lane knows after of what it knew before
pub record Meets {D : Type 0} (state : D →
    DieState) (before : DeviceCore) (step : Made) (after : DeviceCore) (lane lane' : Option (LaneView D)) : Type 0 where
  pub one_die : SameDie lane lane'
  pub leads : (w : WorldState) → w.core ≡ before → AgreesIf state w lane → (s : State) → Fits w s
      → (t : State) × Follows s step t × Fits (placed state w after lane') t

-- the list that the seat had seen has one step more, and is legal
abbrev pub Stepped : {D : Type 0} → (D → DieState) → View D → Made → Option (LaneView D) → Mine D → Type 0
Stepped state v step lane n =
    (n ≡ (record v { seen = v.seen ++ step_by v.by step ∷ []; held = None; lane = lane; looks = false }, []))
    × IsLegalIf state v.opening (v.seen ++ step_by v.by step ∷ [])
    × CanWork state lane

-- the step was made: the seat has seen a list that begins with all that it had seen and ends with this step, which is
-- one more of its own
pub record Did {D : Type 0} (state : D →
    DieState) (v : View D) (step : Made) (lane : Option (LaneView D)) (w : View D) : Type 0 where
  pub between : List Entry
  pub list : w.seen ≡ (v.seen ++ between) ++ step_by v.by step ∷ []
  pub own : mine v.by w.seen ≡ mine v.by v.seen ++ step_by v.by step ∷ []
  pub seat : w.by ≡ v.by
  pub opening : w.opening ≡ v.opening
  pub legal : IsLegalIf state v.opening w.seen
  pub lane_is : w.lane ≡ lane
  pub can_work : CanWork state lane

-- the job that a lane has after it asked for one
abbrev pub job_given : Option Job → Option Job → Option Job
job_given had None = had
job_given had (Some j) = Some j

-- what a lane knows after it asked for a job: the job, or what it had if none was given
abbrev pub lane_given : {D : Type 0} → Option (LaneView D) → Option Job → Option (LaneView D)
lane_given None told = None
lane_given (Some l) told = Some record l { job = job_given l.job told }

-- what a lane knows after its job ended
abbrev pub lane_ended : {D : Type 0} → Option (LaneView D) → D → Option (LaneView D)
lane_ended None die = None
lane_ended (Some l) die = Some record { die = l.die; content = die; job = None }

-- the die has done its job, and it ended so
abbrev pub HasDone : {D : Type 0} → (D → DieState) → (D → ℕ) → Option (LaneView D) → ℕ → D → Outcome → Type 0
HasDone state failed None number die o = ⊥
HasDone state failed (Some l) number die o =
    (l.die ≡ number)
    × ((j : Job) × (l.job ≡ Some j) × dies.Did (failed l.content) (failed die) (state l.content) j o (state die))

-- the seat is that of the lane of this die
abbrev pub IsLaneOf : {D : Type 0} → Option (LaneView D) → ℕ → Type 0
IsLaneOf None number = ⊥
IsLaneOf (Some l) number = l.die ≡ number

-- Dealing

-- a seat that has seen nothing yet, with the next number
abbrev pub newcomer : {D : Type 0} → View D → Option (LaneView D) → View D
newcomer dealer lane = record {
  by = dealer.numbers;
  steps = true;
  opening = dealer.opening;
  seen = [];
  held = None;
  lane = lane;
  numbers = 0;
  lanes = 0;
  looks = false;
  before = [];
  other = [];
}

-- the seat that is dealt to a caller without a die
abbrev pub new_port : {D : Type 0} → View D → View D
new_port dealer = newcomer dealer None

-- the dealer has one number less to give: the next seat gets the number after it
abbrev pub port_dealt : {D : Type 0} → View D → View D
port_dealt dealer = record dealer { numbers = dealer.numbers + 1 }

-- what a new lane knows of its die: what it holds, and that it has no job
abbrev pub new_lane_of : {D : Type 0} → ℕ → Option D → Option (LaneView D)
new_lane_of n None = None
new_lane_of n (Some die) = Some record { die = n; content = die; job = None }

-- what a new lane knows of the die of this number; none if the device was opened over no such die
abbrev pub lane_at : {D : Type 0} → Option (Opening D) → ℕ → Option (LaneView D)
lane_at None n = None
lane_at (Some opening) n = new_lane_of n (slice_get opening.dies.value.items n)

-- dies are dealt from the last to the first
abbrev pub new_lane : {D : Type 0} → View D → View D
new_lane dealer = newcomer dealer (lane_at dealer.opening (dealer.lanes - 1))

-- the dealer gave a number and a die: the next lane gets the die before it
abbrev pub lane_dealt : {D : Type 0} → View D → View D
lane_dealt dealer = record dealer { numbers = dealer.numbers + 1; lanes = dealer.lanes - 1 }

-- the seat deals the others of this table
abbrev pub IsDealer : {D : Type 0} → TableId → Seat DeviceCore (View D) → Type 0
IsDealer id seat = IsSeatOf id seat × (seat.id ≡ 0)

-- Telling what was seen

-- the longer of two lists. Both are beginnings of the one list, so the shorter is a beginning of it
abbrev pub longer : List Entry → List Entry → List Entry
longer xs ys = cond (nat_le (length xs) (length ys)) ys xs

-- a seat that makes no step and carries what another has seen
abbrev pub messenger : {D : Type 0} → List Entry → View D
messenger seen = record {
  by = 0;
  steps = false;
  opening = None;
  seen = seen;
  held = None;
  lane = None;
  numbers = 0;
  lanes = 0;
  looks = false;
  before = [];
  other = [];
}

-- what is left of a messenger that was heard: a seat that has seen nothing
abbrev pub spent : {D : Type 0} → View D
spent = messenger []

-- the longer of the two lists, with both to compare
abbrev pub both : {D : Type 0} → View D → View D → View D
both v w = record v { seen = longer v.seen w.seen; looks = true; before = v.seen; other = w.seen }

-- the seat looked into the core's slot: the two lists that it was to compare are beginnings of its own
abbrev pub Looked : {D : Type 0} → Mine D → Mine D → Type 0
Looked m n = (n ≡ (record m.0 { looks = false }, m.1)) × (m.0.looks ≡ true → Compared m.0)

-- the seat has the longer of its list and another, which begins with each of the two, and the same steps of its own in
-- it
pub record HasHeard {D : Type 0} (other : List Entry) (v w : View D) : Type 0 where
  pub seen : w.seen ≡ longer v.seen other
  pub before : Begins v.seen w.seen
  pub told : Begins other w.seen
  pub own : mine v.by w.seen ≡ mine v.by v.seen
  pub seat : w.by ≡ v.by
  pub opening : w.opening ≡ v.opening
  pub lane : w.lane ≡ v.lane

-- the seat has a list that begins with what it had seen and with what the other had, and the same steps of its own in
-- it
pub record HasMet {D : Type 0} (other : List Entry) (v w : View D) : Type 0 where
  pub before : Begins v.seen w.seen
  pub told : Begins other w.seen
  pub own : mine v.by w.seen ≡ mine v.by v.seen
  pub seat : w.by ≡ v.by
  pub opening : w.opening ≡ v.opening
