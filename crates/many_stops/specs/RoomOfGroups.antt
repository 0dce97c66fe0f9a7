-- How many free blocks a mended life leaves once it has programmed for its host, and what its plan may still take.
use Rattle.std.specs.Int.{div_ceil}
use Rattle.std.specs.Prelude.{◌≡◌, ◌≢◌, ◌⊎◌, ℕ, ◌+◌, ◌-◌, ◌*◌, ◌<◌, ◌≤◌, if◌then◌else◌, Bool, true, false, List, length}
use Rattle.std.specs.Prelude.{Option, Some, None, count_by, sum_by}
use Rattle.ufs_spec.specs.Cells.{Cells, GroupPage}
use Rattle.ufs_spec.specs.Disk.{BlockState, Bad, Filling, Flight, Programming, Spot}
use Rattle.ufs_spec.specs.Keys.{below}
use Rattle.ufs_spec.specs.Kept.{fence_in}
use Rattle.ufs_spec.specs.Ledger.{before_accepted}
use Rattle.ufs_spec.specs.Moves.{Move, is_kind_of}
use Rattle.ufs_spec.specs.Translation.{CopyStep, Plan, Step, StepKind, Translation, count_blocks, is_bad, is_free}
use Rattle.ufs_spec.specs.Translation.{is_mended, is_plan_of_bad, may_go_bad, name_of, spots, spots_of}
use Rattle.ufs_spec.specs.declared.configs.Numbers.{Numbers}
use Rattle.ufs_spec.specs.declared.flash.Place.{Place}
use Rattle.ufs_spec.specs.declared.flash.Tag.{Tag}
use Rattle.ufs_spec.specs.declared.layer.Name.{Name}
use Rattle.power_loss.specs.Exchange.{IsSpot}
use Rattle.power_loss.specs.Invariant.{Flights, Standing}
use Rattle.power_loss.specs.MendingRoom.{fails_job}

-- Pages of the host

-- a page of a group with a greater number stands
pub record StandsBehind (before : ℕ) (standing : Standing) : Type 0 where
  pub number : ℕ
  pub index : ℕ
  pub place : Place
  pub behind : before < number
  pub stands : standing number index ≡ Some place

-- a die programs a page of a group with a greater number
pub record FliesBehind (before : ℕ) (flights : Flights) : Type 0 where
  pub die : ℕ
  pub place : Place
  pub tag : Tag
  pub body : List ℕ
  pub behind : before < tag.number
  pub flies : flights die ≡ Some (Programming place (GroupPage tag body))

-- a page of a group with a greater number is there, though its program may have failed
pub record ShowsBehind (before : ℕ) (cells : Cells) : Type 0 where
  pub place : Place
  pub tag : Tag
  pub body : List ℕ
  pub behind : before < tag.number
  pub there : cells place ≡ GroupPage tag body

abbrev pub IsHandedOut : ℕ → Standing → Cells → Flights → Type 0
IsHandedOut before standing cells flights =
    StandsBehind before standing ⊎ (FliesBehind before flights ⊎ ShowsBehind before cells)

-- a page of a command that was accepted in this life was handed to a die: its program is in flight, ended well, or left
-- the page though it failed
abbrev pub HasHandedOut : Translation → Type 0
HasHandedOut t = IsHandedOut (before_accepted t.ledger) t.ledger.standing t.disk.cells t.disk.flights

-- Pages of the plan

-- the step copies a page
abbrev pub page_of_copy : StepKind → ℕ
page_of_copy (CopyStep name from) = 1
page_of_copy kind = 0

abbrev pub pages_of_copy : Option Step → ℕ
pages_of_copy None = 0
pages_of_copy (Some step) = page_of_copy step.kind

-- how many pages a plan still programs: its copies that are left, the one under way, and its mark, be it under way or
-- not ordered yet
abbrev pub pages_of_plan : Option Plan → Option Step → ℕ
pages_of_plan None step = 0
pages_of_plan (Some plan) step = length plan.copies + pages_of_copy step + 1

-- so many of the plan that is under way
abbrev pub plan_pages : Translation → ℕ
plan_pages t = pages_of_plan t.work.plan t.work.step

-- Room in blocks that are being filled

-- how many pages may still be programmed in a block that is being filled; none in any other
abbrev pub filling_room : ℕ → BlockState → ℕ
filling_room pages (Filling next) = pages - next
filling_room pages state = 0

-- whether the step under way programs the page of the name
abbrev pub programs_name : Option Step → Name → Bool
programs_name None name = false
programs_name (Some step) name = is_kind_of name step.kind

-- a die with this job takes a page of room for a group: it programs a page that is not that of the step under way
abbrev pub page_of_group : Option Step → Option Flight → ℕ
page_of_group step (Some (Programming p (GroupPage tag body))) = if programs_name step (name_of tag) then 0 else 1
page_of_group step flight = 0

-- the room in blocks of one die that are being filled, less the page of a group that it programs
abbrev pub room_on : Numbers → (Spot → BlockState) → Option Step → Flights → ℕ → ℕ
room_on n blocks step flights die =
    sum_by (λ s. filling_room n.pages (blocks s)) (spots_of n die) - page_of_group step (flights die)

abbrev pub room_on_dies : Numbers → (Spot → BlockState) → Option Step → Flights → ℕ
room_on_dies n blocks step flights = sum_by (room_on n blocks step flights) (below n.dies)

-- the room in blocks that are being filled, less a page for each page of a group that a die programs
abbrev pub open_room : Translation → ℕ
open_room t = room_on_dies t.numbers t.disk.blocks t.work.step t.disk.flights

-- The room that groups leave

-- how many blocks are free, and how many are bad
abbrev pub free_count : Numbers → (Spot → BlockState) → ℕ
free_count n blocks = count_by (λ s. is_free (blocks s)) (spots n)

abbrev pub bad_count : Numbers → (Spot → BlockState) → ℕ
bad_count n blocks = count_by (λ s. is_bad (blocks s)) (spots n)

-- so many free blocks are room for one mending, whatever it has to repair: as many as hold the pages of a full write
-- cache, and one. What the device's own pages need is one block for each die, and twice as many
abbrev pub mending_blocks : Numbers → ℕ
mending_blocks n = div_ceil n.slots n.pages + 1

-- so many blocks are room for two mendings, for one block that is open, and for each block that may still go bad
abbrev pub kept_room : Numbers → (Spot → BlockState) → ℕ
kept_room n blocks = 2 * mending_blocks n + 1 + may_go_bad n (bad_count n blocks)

-- one block less is free, and what the plan under way still programs fits into blocks that are being filled already: so
-- it ends without a block more, and frees one
pub record IsOneShort (n : Numbers) (blocks : Spot → BlockState) (flights : Flights) (step : Option Step)
    (plan : Option Plan) : Type 0 where
  pub short : kept_room n blocks ≤ free_count n blocks + 1
  pub under_way : Plan
  pub is : plan ≡ Some under_way
  pub good : blocks under_way.victim ≢ Bad
  pub fits : pages_of_plan plan step ≤ room_on_dies n blocks step flights

-- so many blocks are free, and what the plan of a bad block still programs fits into those that are free beyond them
-- and those that are being filled. So two blocks more are free than are kept, for the pages of a bad block and a mark
-- may fill two; or one more, and what is left fits into it and the blocks that are being filled; or none more, and it
-- fits into these
pub record HasRoomForBad (n : Numbers) (blocks : Spot → BlockState) (flights : Flights) (step : Option Step)
    (plan : Option Plan) : Type 0 where
  pub kept : kept_room n blocks ≤ free_count n blocks
  pub fits : pages_of_plan plan step ≤
      room_on_dies n blocks step flights + n.pages * (free_count n blocks - kept_room n blocks)

-- so many blocks are free, or one less is and a plan under way needs none. While a bad block is collected there is room
-- for what its plan still programs, too
pub record HasOwnRoom (n : Numbers) (blocks : Spot → BlockState) (flights : Flights) (step : Option Step)
    (plan : Option Plan) : Type 0 where
  pub any : (kept_room n blocks ≤ free_count n blocks) ⊎ IsOneShort n blocks flights step plan
  pub bad : is_plan_of_bad blocks plan ≡ true → HasRoomForBad n blocks flights step plan

-- the plan is of a block of the dies. It programs no more pages than fill two, and if its block is not bad no more than
-- fill one
pub record PlanGains (n : Numbers) (blocks : Spot → BlockState) (step : Option Step) (plan : Plan) : Type 0 where
  pub inside : IsSpot n plan.victim
  pub most : pages_of_plan (Some plan) step ≤ 2 * n.pages
  pub less : blocks plan.victim ≢ Bad → pages_of_plan (Some plan) step ≤ n.pages

pub record LeavesRoom (n : Numbers) (before : ℕ) (standing : Standing) (cells : Cells)
    (blocks : Spot → BlockState) (flights : Flights) (mended : Bool) (step : Option Step) (plan : Option Plan) : Type 0
  where
    -- no two dies program pages of one name
    pub one_die : (d e : ℕ) (p q : Place) (a b : Tag) (x y : List ℕ) → flights d ≡ Some (Programming p (GroupPage a x)) →
        flights e ≡ Some (Programming q (GroupPage b y)) → name_of a ≡ name_of b → d ≡ e
    -- a page that is copied stands
    pub copied : (name : Name) (from : Place) (there : Bool) →
        step ≡ Some (record { kind = CopyStep name from; there = there }) →
        (p : Place) × (standing name.number name.index ≡ Some p)
    -- once the device is mended each step is one of a plan
    pub planned : mended ≡ true → (s : Step) → step ≡ Some s → (pl : Plan) × (plan ≡ Some pl)
    pub gains : (pl : Plan) → plan ≡ Some pl → PlanGains n blocks step pl
    -- there is room once a page of the host was handed out
    pub room : IsHandedOut before standing cells flights → HasOwnRoom n blocks flights step plan

-- groups leave the device's own pages their room
abbrev pub LeavesOwnRoom : Translation → Type 0
LeavesOwnRoom t = LeavesRoom t.numbers (before_accepted t.ledger) t.ledger.standing t.disk.cells t.disk.blocks
    t.disk.flights (is_mended t.work.mending) t.work.step t.work.plan

-- Failures

-- if a program or an erase fails by the move, fewer blocks are bad before it than are spare
abbrev pub IsWithinSpare : Translation → Move → Type 0
IsWithinSpare t move = fails_job move ≡ true → count_blocks t is_bad < t.numbers.spare

-- Nothing to mend

-- no number is lost, no fence is there, and the life is mended from its start
pub record HasNothingToMend (t : Translation) : Type 0 where
  pub none_lost : t.ledger.greatest_seen < t.ledger.first_lost
  pub no_fence : fence_in t.ledger.newest ≡ None
  pub mended : is_mended t.work.mending ≡ true
