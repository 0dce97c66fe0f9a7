-- How much room an opening finds for its mending, whatever stops left it.
use Rattle.std.specs.Prelude.{◌≡◌, ◌≢◌, ◌⊎◌, ℕ, ◌+◌, ◌*◌, ◌≤◌, Bool, true, false, List, count_by}
use Rattle.ufs_spec.specs.Cells.{Cells, GroupPage}
use Rattle.ufs_spec.specs.Disk.{Bad, Free, Spot, spot_of}
use Rattle.ufs_spec.specs.Lives.{Life, Lived}
use Rattle.ufs_spec.specs.Refusals.{State, mended}
use Rattle.ufs_spec.specs.Translation.{Translation, count_blocks, is_bad, is_free, is_mended, may_go_bad, spots}
use Rattle.ufs_spec.specs.declared.events.Event.{Event}
use Rattle.ufs_spec.specs.declared.events.Output.{Output}
use Rattle.ufs_spec.specs.declared.flash.Place.{Place}
use Rattle.ufs_spec.specs.declared.flash.Tag.{Tag}
use Rattle.power_loss.specs.MendingRoom.{MayGoOn, makes_bad}
use Rattle.many_stops.specs.RoomOfGroups.{mending_blocks}

-- each page of a group in the block has a number from the low one on; whatever marks it holds
abbrev pub HoldsLost : Cells → ℕ → Spot → Type 0
HoldsLost c low s = (p : Place) (t : Tag) (body : List ℕ) → spot_of p ≡ s → c p ≡ GroupPage t body → low ≤ t.number

-- the block is free, or will be at the next opening, once the first mark of this life is finished: it is not bad, and
-- its pages are lost, or marks
abbrev pub IsFreeOrLost : Translation → Spot → Type 0
IsFreeOrLost t s =
    (t.disk.blocks s ≡ Free) ⊎ ((t.disk.blocks s ≢ Bad) × HoldsLost t.disk.cells t.ledger.first_lost s)

-- how many blocks may still go bad
abbrev pub more_bad : Translation → ℕ
more_bad t = may_go_bad t.numbers (count_blocks t is_bad)

-- there is room for a mending, and, with blocks that hold nothing but what is lost, for the one after it; and in both a
-- block for each that may still go bad
pub record HasSpareBlocks (t : Translation) : Type 0 where
  pub free : mending_blocks t.numbers + more_bad t ≤ count_blocks t is_free
  pub spare : Spot → Bool
  pub each : (s : Spot) → spare s ≡ true → IsFreeOrLost t s
  pub many : 2 * mending_blocks t.numbers + more_bad t ≤ count_by spare (spots t.numbers)

-- a device that is opened is mended at once, or finds such room
abbrev pub FindsRoom : Translation → Type 0
FindsRoom t = (is_mended t.work.mending ≡ true) ⊎ HasSpareBlocks t

-- up to each of its events that does not find it mended, a life in which no more programs and erases failed than blocks
-- may go bad may go on
abbrev pub IsNeverLockedOut : Lived → Type 0
IsNeverLockedOut l = (es : List Event) (os : List Output) (middle : State) → Life l.start es os middle →
    count_by makes_bad es ≤ more_bad l.start.translation → mended middle ≡ false → MayGoOn middle.translation

-- the life begins with room for its mending, and is never locked out
abbrev pub OpensWithRoom : Lived → Type 0
OpensWithRoom l = FindsRoom l.start.translation × IsNeverLockedOut l
